-- Whom a borrowed message is from.
use Rattle.std.proofs.Common.{◌≡◌, ℕ, true, Some, ap, sym, ◌∙◌}
use Rattle.iox2_machine.specs.machine.Mailbox.{is_borrowed}
use Rattle.iox2_machine.specs.machine.Records.{Entry}
use Rattle.iox2_machine.specs.declared.header.Header.{Header}
use Rattle.iox2_domain.specs.Kept.{state_of, entries_of}
use Rattle.iox2_domain.specs.Fields.{Fields, kept_of}
use Rattle.iox2_domain.specs.Invariant.{IsDomain}
use Rattle.iox2_domain.proofs.lemmas.samples.SampleEntries.{borrowed-entry}

-- its header names the publisher from which it is borrowed
pub entry-origin : {T U : Type 0} (f : Fields T U) → IsDomain f → (q p n : ℕ) (header : Header)
    → is_borrowed n ((state_of (kept_of f)).mailboxes p q) ≡ true
    → (entry : Entry T U) × (entries_of (kept_of f) n ≡ Some entry) × (entry.header ≡ header) → header.publisher_id ≡ p
entry-origin f sound q p n header borrowed read =
    let kept = borrowed-entry f sound q p n borrowed in
    let both : Some kept.0 ≡ Some read.0 = sym kept.1 ∙ read.1 in
    let same : kept.0 ≡ read.0 = cc in
    ap (λ (h : Header). h.publisher_id) (sym (ap (λ e. e.header) same ∙ read.2)) ∙ kept.2
