use Rattle.std.proofs.Common.{Err, List, None, Ok, Option, Result, Some, refl, subst, sym, ℕ}
use Rattle.slab.specs.Slab.{Slab}
use Rattle.iox2_connections.specs.Link.{Link}
use Rattle.iox2_machine.specs.declared.errors.ReceiveError.{ReceiveError}
use Rattle.iox2_connections.specs.Homes.{IsApart}
use Rattle.iox2_connections.specs.Takes.{ReceivesSlot, SameStands}
use Rattle.iox2_connections.specs.declared.receiver.Taken.{Taken}
use Rattle.iox2_connections.proofs.Counts.{IsCovered-follows}
use Rattle.iox2_connections.proofs.MailboxChanges.{IsApart-same}
use Rattle.iox2_connections_tests.proofs.deliveries.a_message_goes_there_and_back.Goals as goal

module _ (old new : Slab Link) (expired : List ℕ) (keys : List (Option ℕ)) where
  -- each slot stands as often as before, whatever was received
  stands-received : (r : Result (Option Taken) ReceiveError) → ReceivesSlot old expired keys r new → SameStands old new
  stands-received (Ok (Some taken)) h = h.1.stay
  stands-received (Ok None) h =
      subst (SameStands old) (sym h.1) (record { follows = λ p holders. record { at = λ slot. refl } })
  stands-received (Err e) h =
      subst (SameStands old) (sym h.2) (record { follows = λ p holders. record { at = λ slot. refl } })

  -- and no two connections are between the same ports
  apart-received : IsApart old → (r : Result (Option Taken) ReceiveError) → ReceivesSlot old expired keys r new
      → IsApart new
  apart-received apart (Ok (Some taken)) h = IsApart-same old new apart h.1.homes
  apart-received apart (Ok None) h = subst IsApart (sym h.1) apart
  apart-received apart (Err e) h = subst IsApart (sym h.2) apart

pub release-requires-clause-apart : goal.release-requires-clause-apart
release-requires-clause-apart g c =
    apart-received _ _ _ _ c.in_ok-outcome.ensures.apart c.receive.result c.receive.ensures

pub reclaim_all-requires-clause-apart : goal.reclaim_all-requires-clause-apart
reclaim_all-requires-clause-apart g c = IsApart-same c.receive.new.connections _
    (apart-received _ _ _ _ c.in_ok-outcome.ensures.apart c.receive.result c.receive.ensures) c.release.ensures.homes

pub reclaim_all-requires-clause-covered : goal.reclaim_all-requires-clause-covered
reclaim_all-requires-clause-covered g c =
    let holders = c.in_ok-outcome.field-0.book.holders in
    IsCovered-follows 1 _ _ _ _ (IsCovered-follows 1 _ _ _ _ c.in_ok-outcome.ensures.covered
    ((stands-received _ _ _ _ c.receive.result c.receive.ensures).follows 1 holders))
    (c.release.ensures.stands.follows 1 holders)
