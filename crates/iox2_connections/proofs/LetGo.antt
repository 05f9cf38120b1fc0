-- A slot that a subscriber had borrowed from a publisher that is gone.
use Rattle.std.proofs.Common.{◌≡◌, ℕ, ◌<◌, true, List, map, get_or, Some, refl, ap, sym, subst, ◌∙◌, arith}
use Rattle.std.proofs.lemmas.List.{length-set}
use Rattle.std.specs.Prelude.{IsSomeAnd}
use Rattle.slab.specs.Slab.{Slab, get, with_value}
use Rattle.iox2_connections.specs.Link.{Link, without_borrowed}
use Rattle.iox2_machine.specs.machine.Mailbox.{Mailbox, with_released}
use Rattle.iox2_machine.specs.machine.Numbers.{contains, IsOnce}
use Rattle.iox2_connections.specs.Counters.{one_holder_less}
use Rattle.iox2_connections.specs.Homes.{IsApart}
use Rattle.iox2_connections.specs.Mailboxes.{mailbox_of, mailboxes_of, with_box}
use Rattle.iox2_connections.specs.Recounts.{Recounts}
use Rattle.iox2_connections.specs.Takes.{ReleasesSlot}
use Rattle.iox2_connections.proofs.Counts.{get_or-one_holder_less}
use Rattle.iox2_connections.proofs.DeliverySteps.{same_link}
use Rattle.iox2_connections.proofs.MailboxChanges.{Updates-with_value, mailbox-there, mailboxes-changed}
use Rattle.iox2_connections.proofs.Recounts.{Recounts-one}
use Rattle.iox2_connections.proofs.Releases.{mailbox-with_returned, times-without}

module _ (slab : Slab Link) (key slot : ℕ) (c : Link) (at : get slab key ≡ Some c)
    (borrowed : contains c.borrowed slot ≡ true) where
  abbrev left : Link
  left = without_borrowed slot c

  -- it leaves its mailbox
  pub releases-left : IsApart slab → ReleasesSlot slab key slot (with_value slab key left)
  releases-left apart = record {
    releases = λ b at_b number once.
        subst (λ (x : Link). IsOnce (mailboxes_of number slab x.home.publisher x.home.subscriber).borrowed
        → mailboxes_of number (with_value slab key left) ≡ with_box
        (mailboxes_of number slab) x.home.publisher x.home.subscriber
        (with_released (number x.home.publisher slot) (mailboxes_of number slab x.home.publisher x.home.subscriber)))
        (same_link slab key c b at at_b) (by number) once;
  }
    where
      by : (number : ℕ → ℕ → ℕ) → IsOnce (mailboxes_of number slab c.home.publisher c.home.subscriber).borrowed
          → mailboxes_of number (with_value slab key left) ≡ with_box
          (mailboxes_of number slab) c.home.publisher c.home.subscriber
          (with_released (number c.home.publisher slot) (mailboxes_of number slab c.home.publisher c.home.subscriber))
      by number once =
          let there : mailboxes_of number slab c.home.publisher c.home.subscriber ≡ mailbox_of
          (number c.home.publisher) c =
          mailbox-there number slab key c.home.publisher c.home.subscriber c apart at refl refl in
          let once_there : IsOnce (map (number c.home.publisher) c.borrowed) =
          subst (λ (box : Mailbox). IsOnce box.borrowed) there once in
          mailboxes-changed number slab (with_value slab key left) key c left apart at refl
          (Updates-with_value slab key c left at)
          ∙ ap (λ (box : Mailbox). with_box (mailboxes_of number slab) c.home.publisher c.home.subscriber box)
          (mailbox-with_returned (number c.home.publisher) slot c borrowed once_there
          ∙ ap (with_released (number c.home.publisher slot)) (sym there))

  -- and it has one holder less
  pub recounts-left : (holders : List ℕ) → IsOnce c.borrowed → 0 < get_or holders slot 0
      → Recounts c.home.publisher holders slab (one_holder_less slot holders) (with_value slab key left)
  recounts-left holders once in_use =
      Recounts-one c.home.publisher holders (one_holder_less slot holders) slab key c left at refl refl
      (λ n. omega (arith, times-without n slot c.borrowed borrowed once, get_or-one_holder_less holders slot n in_use))
      (length-set holders slot _)
      (λ n some. omega (arith, get_or-one_holder_less holders slot n in_use, some)) (omega arith)

-- what is said of the connection at the key is said of the one that stands there
pub said-there : (slab : Slab Link) (key : ℕ) (c : Link) (P : Link → Type 0) → get slab key ≡ Some c
    → IsSomeAnd (get slab key) P → P c
said-there slab key c P at h = rw at at h

pub says-there : (slab : Slab Link) (key : ℕ) (c : Link) (P : Link → Type 0) → get slab key ≡ Some c → P c
    → IsSomeAnd (get slab key) P
says-there slab key c P at h = rw at h

pub changed-there : (slab : Slab Link) (key : ℕ) (c d : Link) → get slab key ≡ Some c
    → get (with_value slab key d) key ≡ Some d
changed-there slab key c d at = (Updates-with_value slab key c d at).changed
