-- A subscriber's work on one connection, at which no counter changes.
use Rattle.std.proofs.Common.{◌≡◌, ℕ, ◌+◌, true, Some, [], ap, sym, subst, ◌∙◌, inl, inr, ◌⊎◌, arith}
use Rattle.std.proofs.lemmas.Bool.{cases_eq}
use Rattle.std.specs.List.{sum_by}
use Rattle.slab.specs.Slab.{Slab, get}
use Rattle.iox2_connections.specs.Link.{Link}
use Rattle.iox2_machine.specs.machine.Numbers.{contains}
use Rattle.iox2_machine.specs.machine.Mailbox.{Mailbox, numbers_in}
use Rattle.iox2_machine.specs.machine.State.{State}
use Rattle.iox2_machine.specs.machine.WellFormed.{IsWellFormed}
use Rattle.iox2_connections.specs.Counters.{stands}
use Rattle.iox2_connections.specs.Homes.{SameHomes, fixed_of}
use Rattle.iox2_connections.specs.Mailboxes.{mailboxes_of}
use Rattle.iox2_connections.specs.Takes.{KeepsOtherKeys, KeepsReturned, SameStands}
use Rattle.iox2_connections.proofs.MailboxChanges.{was, IsApart-same}
use Rattle.iox2_domain.specs.Kept.{state_of}
use Rattle.iox2_domain.specs.Fields.{Fields, kept_of, number_in_slot}
use Rattle.iox2_domain.specs.Invariant.{IsDomain, IsCounted, SenderHas, own_holders, HasParts}
use Rattle.iox2_domain.specs.Reaches.{Reaches}
use Rattle.iox2_domain.specs.Shows.{KeepsEntries}
use Rattle.iox2_machine.specs.Stored.{IsHeldMessage, In_history, In_mailbox, In_blocked_send}
use Rattle.iox2_domain.proofs.lemmas.fields.Parts.{whole_of, connected_parts}
use Rattle.iox2_domain.proofs.lemmas.fields.ExpiredRoom.{room-still}
use Rattle.iox2_domain.proofs.lemmas.fields.NamedBooks.{names-still}
use Rattle.iox2_domain.proofs.lemmas.fields.SameEnds.{with_connections, connections-are, sender-same, linked-still}
use Rattle.iox2_domain.proofs.lemmas.fields.PlacesKept.{places-still}

module _ {T U : Type 0} where
  -- the state with these mailboxes
  abbrev pub with_all_mailboxes : State T U → (ℕ → ℕ → Mailbox) → State T U
  with_all_mailboxes s boxes = record s { mailboxes = boxes }

  -- who holds a message where the mailboxes have no new numbers held it before
  pub held-within : (s : State T U) (boxes : ℕ → ℕ → Mailbox) (p n : ℕ)
      → ((q : ℕ) → contains (numbers_in (boxes p q)) n ≡ true → contains (numbers_in (s.mailboxes p q)) n ≡ true)
      → IsHeldMessage (with_all_mailboxes s boxes) p n → IsHeldMessage s p n
  held-within s boxes p n before (In_history x at is) = In_history x at is
  held-within s boxes p n before (In_mailbox q is) = In_mailbox q (before q is)
  held-within s boxes p n before (In_blocked_send x b at blocked is) = In_blocked_send x b at blocked is

-- a connection that its publisher has is still its, and one in which nothing was given back still has nothing
module _ {T U : Type 0} (f : Fields T U) (key : ℕ) (c : Link) (at : get f.connections key ≡ Some c) (new : Slab Link)
    (same : SameHomes f.connections new) where
  the-same : (d : Link) → get new key ≡ Some d → fixed_of c ≡ fixed_of d
  the-same d at_d =
      let b = was f.connections new key d same at_d in
      let both : Some c ≡ Some b.0 = sym at ∙ b.1 in
      let is : c ≡ b.0 = cc in
      ap fixed_of is ∙ b.2

  pub its-still : SenderHas f.publishers key c → (d : Link) → get new key ≡ Some d
      → SenderHas f.publishers key d ⊎ (d.returned ≡ [])
  its-still has d at_d = inl (sender-same f new same key c d (the-same d at_d) has)

  pub returned-still : KeepsReturned key f.connections new → SenderHas f.publishers key c ⊎ (c.returned ≡ [])
      → (d : Link) → get new key ≡ Some d → SenderHas f.publishers key d ⊎ (d.returned ≡ [])
  returned-still keeps (inl has) d at_d = its-still has d at_d
  returned-still keeps (inr none) d at_d = inr (keeps.at c d at at_d ∙ none)

module _ {T U : Type 0} (f : Fields T U) (sound : IsDomain f) (key : ℕ) (c : Link) (at : get f.connections key ≡ Some c)
    (new : Slab Link) (same : SameHomes f.connections new) (others : KeepsOtherKeys key f.connections new)
    (stay : SameStands f.connections new)
    (returned : (d : Link) → get new key ≡ Some d → SenderHas f.publishers key d ⊎ (d.returned ≡ [])) where
  counted-still : IsCounted (with_connections f new same)
  counted-still = record {
    at = λ p slot.
        let before = sound.parts.counted.at p slot in
        let moved = (stay.follows p []).at slot in
        before ∙ ap (λ n. own_holders f p slot + n)
        (let e : sum_by (stands p slot) f.connections.slots ≡ sum_by (stands p slot) new.slots = omega (arith, moved) in
        e);
  }

  -- the fields with the changed connection agree with one another
  pub reconnected-consistent : HasParts (with_connections f new same)
  reconnected-consistent =
      connected_parts f sound.parts new (IsApart-same f.connections new sound.parts.apart same)
      (linked-still f new same sound.parts.linked still-returned)
      (room-still f.subscribers f.connections new same sound.parts.expired_room)
      (names-still f.books f.connections new same sound.parts.names) counted-still
    where
      -- slots that were given back lie where their publisher reclaims them
      still-returned : (k : ℕ) (d : Link) → get new k ≡ Some d → SenderHas f.publishers k d ⊎ (d.returned ≡ [])
      still-returned k d at_d = elim (cases_eq k key) [
        | inl here ↦ subst (λ (i : ℕ). SenderHas f.publishers i d ⊎ (d.returned ≡ [])) (sym here)
            (returned d (sym (ap (get new) here) ∙ at_d))
        | inr away ↦ sound.parts.linked.returned k d (sym (others.others k away) ∙ at_d)
      ]

  -- whoever holds a message has its entry
  pub reconnected-complete : ((p q n : ℕ) → contains (numbers_in (mailboxes_of (number_in_slot f.books) new p q)) n
      ≡ true → contains (numbers_in ((state_of (kept_of f)).mailboxes p q)) n ≡ true)
      → KeepsEntries (kept_of (with_connections f new same))
  reconnected-complete before p n held =
      sound.entries p n
      (held-within (state_of (kept_of f)) (mailboxes_of (number_in_slot f.books) new) p n (λ q. before p q n)
      (subst (λ s. IsHeldMessage s p n) (connections-are f new same) held))

  -- and what they keep is well-formed where the machine's state is
  pub reconnected-reaches : IsWellFormed
      (with_all_mailboxes (state_of (kept_of f)) (mailboxes_of (number_in_slot f.books) new))
      → ((p q n : ℕ) → contains (numbers_in (mailboxes_of (number_in_slot f.books) new p q)) n ≡ true
      → contains (numbers_in ((state_of (kept_of f)).mailboxes p q)) n ≡ true)
      → Reaches f (with_connections f new same)
      (with_all_mailboxes (state_of (kept_of f)) (mailboxes_of (number_in_slot f.books) new))
  reconnected-reaches well before = record {
    agrees = whole_of (with_connections f new same) reconnected-consistent sound.lone
        sound.kept_books (subst IsWellFormed (sym (connections-are f new same)) well) (reconnected-complete before);
    state = connections-are f new same;
    entries = λ n entry is. is;
    places = places-still;
  }
