-- What is read of a sample, from the fields of its domain.
use Rattle.std.proofs.Common.{◌≡◌, true, Some, ap, sym, subst, ◌∙◌}
use Rattle.iox2_machine.specs.machine.Mailbox.{is_borrowed}
use Rattle.iox2_machine.specs.machine.Records.{Entry}
use Rattle.iox2_machine.specs.machine.SingleCalls.{HoldsSample}
use Rattle.iox2_machine.specs.machine.State.{State, Messages}
use Rattle.iox2_domain.specs.Boxes.{DomainBoxes}
use Rattle.iox2_domain.specs.Fields.{Fields, kept_of, keeping}
use Rattle.iox2_domain.specs.Kept.{Kept, entries_of, state_of}
use Rattle.iox2_domain.specs.Shows.{Shows}
use Rattle.iox2_domain.specs.declared.sample_slots.SampleAt.{SampleAt}
use Rattle.iox2_pubsub.specs.Live.{IsFromOrigin, IsLiveSample, IsPlaced}
use Rattle.iox2_pubsub.specs.Sample.{Sample}
use Rattle.iox2_pubsub.proofs.LiveParts.{origin-parts, sample-parts}
use Rattle.iox2_machine.specs.Stored.{IsHeldMessage, In_mailbox}
use Rattle.iox2_laws.proofs.MailboxLemmas.{contains_borrowed}
use Rattle.iox2_domain.specs.Invariant.{IsDomain}
use Rattle.iox2_domain.specs.SampleSlots.{LiesBorrowedInSlot}
use Rattle.iox2_domain.proofs.lemmas.samples.HintedSamples.{lies-in-slot}
use Rattle.iox2_domain.proofs.lemmas.slots.HeldMessages.{held-message-slot}
use Rattle.iox2_pubsub.proofs.PlacedLoans.{placed-number}

-- what of its fields a clause sees of a sample
pub its-place : {it it' : Sample} → it ≡ it' → it.sample ≡ it'.sample
its-place same = ap (λ (it : Sample). it.sample) same

module _ {T U F G : Type 0} {boxes : DomainBoxes F G} (f : Fields T U) (kept : Kept T U F G)
    (view : keeping boxes f ≡ kept) (it : Sample) {at : SampleAt} (same : at ≡ it.sample) where
  -- a live sample's message is borrowed
  pub sample-held : IsLiveSample kept it → HoldsSample (state_of (kept_of f)) at.subscriber at.number
  sample-held live =
      subst (λ (a : SampleAt). HoldsSample (state_of (kept_of f)) a.subscriber a.number) (sym same)
      (subst (λ (k : Kept T U F G). HoldsSample (state_of k) it.sample.subscriber it.sample.number) (sym view)
      (sample-parts kept _ live.there).1)

  -- and lies where the sample says
  pub sample-lies : IsDomain f → IsLiveSample kept it
      → LiesBorrowedInSlot f at.subscriber at.number (record { book = at.book; slot = at.slot })
  sample-lies sound live =
      let held = sample-held live in
      let message : IsHeldMessage (state_of (kept_of f)) held.0 at.number =
      In_mailbox at.subscriber
      (contains_borrowed ((state_of (kept_of f)).mailboxes held.0 at.subscriber) at.number held.1) in
      let there = held-message-slot f sound.parts.counted sound.parts.publisher_ids sound.parts.plain held.0 at.number
      message in
      let placed : IsPlaced kept at.number at.book at.slot =
      subst (λ (a : SampleAt). IsPlaced kept a.number a.book a.slot) (sym same) live.placed in
      lies-in-slot f sound at.subscriber at.number held at.book at.slot
      (placed-number f sound kept view at.number at.book at.slot placed there.0 there.1 there.2)

  -- and from whom, where the sample names that
  pub sample-from : IsFromOrigin kept it
      → is_borrowed at.number ((state_of (kept_of f)).mailboxes it.origin at.subscriber) ≡ true
  sample-from from =
      subst (λ (a : SampleAt). is_borrowed a.number ((state_of (kept_of f)).mailboxes it.origin a.subscriber) ≡ true)
      (sym same)
      (subst (λ (k : Kept T U F G). is_borrowed it.sample.number
      ((state_of k).mailboxes it.origin it.sample.subscriber) ≡ true) (sym view) (origin-parts kept it from))

  module _ {Reads : Entry T U → Type 0}
      (read : (entry : Entry T U) × (entries_of (kept_of f) at.number ≡ Some entry) × Reads entry) where
    entry-at : entries_of kept it.sample.number ≡ Some read.0
    entry-at = ap (λ (a : SampleAt). entries_of kept a.number) (sym same)
        ∙ ap (λ (k : Kept T U F G). entries_of k at.number) (sym view) ∙ read.1

    -- what is read there is read of the domain
    pub entry-kept : (entry : Entry T U) × (entries_of kept it.sample.number ≡ Some entry) × Reads entry
    entry-kept = (read.0, entry-at, read.2)

    -- and of each state that it shows
    pub entry-shown : (m : Messages T U) (s : State T U) → Shows kept m s
        → (entry : Entry T U) × (m it.sample.number ≡ Some entry) × Reads entry
    entry-shown m s shown = (read.0, shown.entries it.sample.number read.0 entry-at, read.2)
