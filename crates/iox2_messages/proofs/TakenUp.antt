-- A publisher that has just reclaimed what was given back takes up its blocked delivery.
use Rattle.std.proofs.Common.{◌≡◌, ℕ, get_or, ap, ◌∙◌}
use Rattle.std.specs.declared.option.Option.TheVariants.{None, Some}
use Rattle.iox2_connections.specs.declared.sender.Progress.{Progress}
use Rattle.iox2_connections.specs.Receivers.{HasReclaimed}
use Rattle.iox2_domain.specs.BlockedSends.{CanGoOn}
use Rattle.iox2_domain.specs.Fields.{Fields, kept_of}
use Rattle.iox2_domain.specs.Kept.{state_of}
use Rattle.iox2_domain.specs.Ports.{PublisherFields}
use Rattle.iox2_domain.specs.Reaches.{Reaches}
use Rattle.iox2_domain.specs.declared.publisher_state.BlockedDelivery.{BlockedDelivery}
use Rattle.iox2_messages.specs.BlockedPublishers.{CanTakeUp}

module _ {T U : Type 0} (f f' : Fields T U) (reaches : Reaches f f' (state_of (kept_of f)))
    (only : f' ≡ record f { connections = f'.connections; books = f'.books })
    (place : ℕ) (x : PublisherFields) (at : get_or f.publishers place None ≡ Some x) where
  -- it is as it was
  pub still : get_or f'.publishers place None ≡ Some x
  still = ap (λ (h : Fields T U). get_or h.publishers place None) only ∙ at

  -- and may take up its delivery where that can go on
  abbrev pub may-take-up : (delivery : BlockedDelivery) → x.blocked ≡ Some delivery → (start : Progress)
      → (get_or f'.publishers place None ≡ Some x → CanGoOn x delivery start) → HasReclaimed f'.connections x.keys
      → CanTakeUp f' place start
  may-take-up delivery waits start can reclaimed = record {
    agrees = reaches.agrees;
    publisher = x;
    stands = still;
    delivery = delivery;
    waits = waits;
    can = can still;
    reclaimed = reclaimed;
  }
