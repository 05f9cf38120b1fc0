-- A subscriber's work on one connection, seen from the machine.
use Rattle.std.proofs.Common.{◌≡◌, ℕ, true, [], ◌∷◌, map, Option, None, Some, refl, ap, sym, ◌∙◌, subst, Contains}
use Rattle.std.proofs.lemmas.List.{map-append}
use Rattle.std.specs.Prelude.{IsSomeAnd}
use Rattle.slab.specs.Slab.{Slab, get, with_value}
use Rattle.iox2_connections.specs.Link.{Link, IsTaken, with_returned}
use Rattle.iox2_machine.specs.machine.Numbers.{contains, IsOnce}
use Rattle.iox2_machine.specs.machine.Mailbox.{Mailbox, BorrowsFirst, with_released}
use Rattle.iox2_connections.specs.Mailboxes.{mailbox_of, mailboxes_of, with_box}
use Rattle.iox2_connections.specs.Homes.{IsApart, SameHomes, fixed_of}
use Rattle.iox2_connections.specs.Takes.{KeepsOtherKeys, KeepsReturned, SameStands, BorrowsSlot, TakesSlot}
use Rattle.iox2_connections.specs.Takes.{ReleasesSlot}
use Rattle.iox2_connections.specs.declared.receiver.Taken.{Taken}
use Rattle.iox2_connections.proofs.MailboxChanges.{Updates-with_value, mailbox-there, mailboxes-changed}
use Rattle.iox2_connections.proofs.Counts.{CountersFollow-kept}
use Rattle.iox2_connections.proofs.DeliverySteps.{same_link}
use Rattle.iox2_connections.proofs.ListedNumbers.{contains-from}
use Rattle.iox2_connections.proofs.Releases.{stands_in-with_returned, mailbox-with_returned}

-- the first slot is borrowed, at numbers
borrows-first : (number : ℕ → ℕ) (c d : Link) (slot : ℕ) → IsTaken c (Some slot) d
    → BorrowsFirst (mailbox_of number c) (number slot) (mailbox_of number d)
borrows-first number c d slot t =
    (map number t.0, ap (map number) t.1, rw (t.2, map-append number c.borrowed (slot ∷ [])) refl)

-- a slot that is taken from a connection is taken from the mailbox
pub takes-taken : (slab : Slab Link) (key slot : ℕ) (c d : Link) → IsApart slab → get slab key ≡ Some c
    → IsTaken c (Some slot) d → BorrowsSlot slab key slot (with_value slab key d)
takes-taken slab key slot c d apart at taken =
    record {
      takes = λ b at_b number.
          by b at_b number (subst (λ (x : Link). IsTaken x (Some slot) d) (same_link slab key c b at at_b) taken);
    }
  where
    by : (b : Link) → get slab key ≡ Some b → (number : ℕ → ℕ → ℕ) → IsTaken b (Some slot) d
        → (box : Mailbox) × BorrowsFirst (mailboxes_of number slab b.home.publisher b.home.subscriber)
        (number b.home.publisher slot) box
        × (mailboxes_of number (with_value slab key d) ≡ with_box
        (mailboxes_of number slab) b.home.publisher b.home.subscriber box)
    by b at_b number t = (
      mailbox_of (number b.home.publisher) d,
      rw (mailbox-there number slab key b.home.publisher b.home.subscriber b apart at_b refl refl)
          (borrows-first (number b.home.publisher) b d slot t),
      mailboxes-changed number slab (with_value slab key d) key b d apart at_b (ap fixed_of t.2)
          (Updates-with_value slab key b d at_b),
    )

-- what was given back there stays
pub keeps-returned : (slab : Slab Link) (key slot : ℕ) (c d : Link) → get slab key ≡ Some c → IsTaken c (Some slot) d
    → KeepsReturned key slab (with_value slab key d)
keeps-returned slab key slot c d at taken = record {
  at = λ a b at_a at_b.
      let now : Some d ≡ Some b = sym (Updates-with_value slab key c d at).changed ∙ at_b in
      let is : d ≡ b = cc in
      ap (λ (x : Link). x.returned) (sym is ∙ taken.2) ∙ ap (λ (x : Link). x.returned) (same_link slab key c a at at_a);
}

-- a slot that is borrowed from the connection at the key
pub borrowed-at : (slab : Slab Link) (key slot : ℕ) (c : Link) → IsSomeAnd (get slab key)
    (λ (x : Link). Contains x.borrowed slot) → get slab key ≡ Some c → contains c.borrowed slot ≡ true
borrowed-at slab key slot c h at = contains-from c.borrowed slot (rw at at h)

-- a slot that is given back leaves its mailbox
pub releases-returned : (slab : Slab Link) (key slot : ℕ) (c d : Link) → IsApart slab
    → IsSomeAnd (get slab key) (λ (x : Link). Contains x.borrowed slot) → get slab key ≡ Some c
    → d ≡ with_returned slot c → ReleasesSlot slab key slot (with_value slab key d)
releases-returned slab key slot c d apart borrowed at returned =
    record {
      releases = λ b at_b number once. by b at_b number
          (subst (λ (x : Link). d ≡ with_returned slot x) (same_link slab key c b at at_b) returned) once;
    }
  where
    by : (b : Link) → get slab key ≡ Some b → (number : ℕ → ℕ → ℕ) → d ≡ with_returned slot b
        → IsOnce (mailboxes_of number slab b.home.publisher b.home.subscriber).borrowed
        → mailboxes_of number (with_value slab key d) ≡ with_box (mailboxes_of number slab) b.home.publisher
        b.home.subscriber
        (with_released (number b.home.publisher slot) (mailboxes_of number slab b.home.publisher b.home.subscriber))
    by b at_b number e once =
        let there : mailboxes_of number slab b.home.publisher b.home.subscriber ≡ mailbox_of
        (number b.home.publisher) b =
        mailbox-there number slab key b.home.publisher b.home.subscriber b apart at_b refl refl in
        let once_there : IsOnce (map (number b.home.publisher) b.borrowed) =
        subst (λ (box : Mailbox). IsOnce box.borrowed) there once in
        mailboxes-changed number slab (with_value slab key d) key b d apart at_b (ap fixed_of e)
        (Updates-with_value slab key b d at_b)
        ∙ ap (λ (box : Mailbox). with_box (mailboxes_of number slab) b.home.publisher b.home.subscriber box)
        (ap (mailbox_of (number b.home.publisher)) e ∙ mailbox-with_returned (number b.home.publisher) slot b
        (borrowed-at slab key slot b borrowed at_b) once_there
        ∙ ap (with_released (number b.home.publisher slot)) (sym there))

-- the connection at the key is the one that got the slot back
pub returned-there : (slab : Slab Link) (key slot : ℕ) (c d : Link) → get slab key ≡ Some c → d ≡ with_returned slot c
    → IsSomeAnd (get slab key) (λ x. get (with_value slab key d) key ≡ Some (with_returned slot x))
returned-there slab key slot c d at returned = rw at ((Updates-with_value slab key c d at).changed ∙ ap Some returned)

-- a slot that is given back stands as often as before
pub stands-returned : (slab : Slab Link) (key slot : ℕ) (c d : Link)
    → IsSomeAnd (get slab key) (λ (x : Link). Contains x.borrowed slot)
    → IsSomeAnd (get slab key) (λ (x : Link). IsOnce x.borrowed) → get slab key ≡ Some c → d ≡ with_returned slot c
    → SameStands slab (with_value slab key d)
stands-returned slab key slot c d borrowed once at returned = record {
  follows = λ p holders. CountersFollow-kept p holders slab.slots key c d at (ap (λ (x : Link). x.home) returned)
      (λ n. rw returned (stands_in-with_returned n slot c (borrowed-at slab key slot c borrowed at) (rw at at once)));
}

-- what is taken from a connection
pub takes-slot : (old new : Slab Link) (taken : Taken) (key : ℕ) → taken.connection ≡ key
    → IsSomeAnd (get old key) (λ (c : Link). taken.home ≡ c.home)
    → IsSomeAnd (get old key) (λ (c : Link). Contains c.waiting taken.slot) → BorrowsSlot old key taken.slot new
    → SameHomes old new → KeepsOtherKeys key old new → KeepsReturned key old new → SameStands old new
    → TakesSlot old taken new
takes-slot old new taken key from = subst (λ (k : ℕ). IsSomeAnd (get old k) (λ (c : Link). taken.home ≡ c.home)
    → IsSomeAnd (get old k) (λ (c : Link). Contains c.waiting taken.slot) → BorrowsSlot old k taken.slot new
    → SameHomes old new → KeepsOtherKeys k old new → KeepsReturned k old new → SameStands old new
    → TakesSlot old taken new) from (λ home waited borrows homes others returned stay.
    by (get old taken.connection) refl home waited borrows homes others returned stay)
  where
    by : (o : Option Link) → get old taken.connection ≡ o → IsSomeAnd o (λ (c : Link). taken.home ≡ c.home)
        → IsSomeAnd o (λ (c : Link). Contains c.waiting taken.slot)
        → BorrowsSlot old taken.connection taken.slot new → SameHomes old new → KeepsOtherKeys taken.connection old new
        → KeepsReturned taken.connection old new → SameStands old new → TakesSlot old taken new
    by None e home waited borrows homes others returned stay = absurd home
    by (Some c) e home waited borrows homes others returned stay = record {
      link = c;
      stands = e;
      home_is = home;
      waited = waited;
      borrows = borrows;
      homes = homes;
      others = others;
      returned = returned;
      stay = stay;
    }
