-- What was given back in a connection is reclaimed, and then a slot is put into it.
use Rattle.std.proofs.Common.{◌≡◌, ◌≢◌, ℕ, ◌+◌, ◌<◌, ◌≤◌, List, length, Bool, true, false, Option, None, Some, get_or}
use Rattle.std.proofs.Common.{set-set, ap, sym, subst, ◌∙◌, arith}
use Rattle.std.proofs.lemmas.List.Sums.{get_or-le-sum_by}
use Rattle.slab.specs.Slab.{Slab, get, with_value}
use Rattle.iox2_connections.specs.Link.{Link, IsPut}
use Rattle.iox2_machine.specs.machine.Delivery.{Skipped}
use Rattle.iox2_machine.specs.machine.Mailbox.{Mailbox}
use Rattle.iox2_machine.specs.declared.service_config.ServiceConfig.{ServiceConfig}
use Rattle.iox2_machine.specs.machine.Records.{Environment}
use Rattle.iox2_connections.specs.declared.connection.PutOutcome.{PutOutcome}
use Rattle.iox2_connections.specs.declared.connection.PutOutcome.TheVariants.{Taken, Overwrote, Full}
use Rattle.iox2_machine.specs.declared.backpressure_handler.BackpressureHandler.{BackpressureHandler}
use Rattle.iox2_connections.specs.declared.sender.ReceiverDetails.{ReceiverDetails}
use Rattle.iox2_connections.specs.declared.sender.Delivery.{Delivery}
use Rattle.iox2_connections.specs.declared.sender.Reception.{Reception}
use Rattle.iox2_connections.specs.Mailboxes.{mailboxes_of, subscriber_of_key}
use Rattle.iox2_connections.specs.Counters.{IsCovered, HoldsItself, GrowsAlone, CanLeave, one_holder_more, recounted}
use Rattle.iox2_connections.specs.Counters.{stands}
use Rattle.iox2_connections.specs.Receivers.{is_open_at, takes_at, taking_buffers, IsReadyToDeliver}
use Rattle.iox2_connections.specs.Recounts.{Recounts}
use Rattle.iox2_connections.specs.Reclaims.{IsHeld, Reclaims, ReclaimsFrom}
use Rattle.iox2_connections.specs.Deliveries.{result_of, ComesTo, PutsMessage}
use Rattle.iox2_connections.proofs.MailboxChanges.{Updates-with_value, within_if_some}
use Rattle.iox2_connections.proofs.Counts.{stands-own, in_range, put-can_leave, get_or-one_holder_more}
use Rattle.iox2_connections.proofs.Counts.{get_or-one_holder_less, one_if_other, recounted-grows, IsCovered-follows}
use Rattle.iox2_connections.proofs.Recounts.{Recounts-trans, put-recounts}
use Rattle.iox2_connections.proofs.ReclaimSteps.{own-linked, reclaims-at}
use Rattle.iox2_connections.proofs.DeliverySteps.{home-of, put-puts, put-passes, subscriber_of_key-same, taking-same}
use Rattle.iox2_connections.proofs.DeliverySteps.{IsReadyToDeliver-same}

-- no slot stands in one of the connections more often than its counter says
pub held-at : (p : ℕ) (hs : List ℕ) (slab : Slab Link) (key : ℕ) (c : Link) → IsCovered p hs slab.slots
    → get slab key ≡ Some c → c.home.publisher ≡ p → IsHeld hs c
held-at p hs slab key c covered at mine = record {
  at = λ slot.
      let part = rw at at (get_or-le-sum_by (stands p slot) slab.slots key None (within_if_some slab.slots key c at)) in
      omega (arith, covered.at slot, part, stands-own p slot c mine);
}

-- ---- the slot that the publisher holds itself

-- it is in use
pub own-in_use : (p slot : ℕ) (hs : List ℕ) (connections : List (Option Link)) → HoldsItself p slot hs connections
    → 0 < get_or hs slot 0
own-in_use p slot hs connections own = omega (arith, own.more)

-- it is so after each change with the counters
pub own-still : (p slot : ℕ) (hs hs' : List ℕ) (old new : Slab Link) → HoldsItself p slot hs old.slots
    → Recounts p hs old hs' new → HoldsItself p slot hs' new.slots
own-still p slot hs hs' old new own r = record { more = omega (arith, own.more, r.counters.at slot) }

-- no other slot gets a holder by a put
recounted-alone : (o : PutOutcome) (slot : ℕ) (hs : List ℕ) → slot < length hs → CanLeave o hs
    → GrowsAlone slot hs (recounted o slot hs)
recounted-alone o slot hs below can = record { others = λ n differs. by o can n differs } where
  by : (o : PutOutcome) → CanLeave o hs → (n : ℕ) → n ≢ slot → get_or (recounted o slot hs) n 0 ≤ get_or hs n 0
  by Taken can n differs = omega (arith, get_or-one_holder_more hs slot n below, one_if_other n slot differs)
  by (Overwrote oldest) can n differs =
      omega (
        arith,
        get_or-one_holder_more hs slot n below,
        one_if_other n slot differs,
        get_or-one_holder_less (one_holder_more slot hs) oldest n
            (omega (arith, can, get_or-one_holder_more hs slot oldest below)),
      )
  by Full can n differs = omega arith

pub GrowsAlone-same : (slot : ℕ) (hs : List ℕ) → GrowsAlone slot hs hs
GrowsAlone-same slot hs = record { others = λ n differs. omega arith }

pub GrowsAlone-trans : (slot : ℕ) (hs hs' hs'' : List ℕ) → GrowsAlone slot hs hs' → GrowsAlone slot hs' hs''
    → GrowsAlone slot hs hs''
GrowsAlone-trans slot hs hs' hs'' a b =
    record { others = λ n differs. omega (arith, a.others n differs, b.others n differs) }

module _ {p : ℕ} {slab : Slab Link} {keys : List (Option ℕ)} {receivers : List (Option ReceiverDetails)} (i key : ℕ)
    (ready : IsReadyToDeliver p slab keys receivers) (at : get_or keys i None ≡ Some key)
    (hs : List ℕ) (a : Link) (was_a : get slab key ≡ Some a) (covered : IsCovered p hs slab.slots) where
  -- it is the publisher's
  pub reclaim-held : IsHeld hs a
  reclaim-held = held-at p hs slab key a covered was_a (home-of i key ready at a was_a).publisher

  module _ (hs' : List ℕ) (c : Link) (r : ReclaimsFrom hs a hs' c) where
    abbrev emptied : Slab Link
    emptied = with_value slab key c

    reclaims : Reclaims p hs slab hs' emptied
    reclaims = reclaims-at p hs hs' slab key a c ready.apart (own-linked p slab keys i key ready.linked at) was_a r

    stands_c : get emptied key ≡ Some c
    stands_c = (Updates-with_value slab key a c was_a).changed

    ready-emptied : IsReadyToDeliver p emptied keys receivers
    ready-emptied = IsReadyToDeliver-same p slab emptied keys receivers ready reclaims.recounts.homes

    covered-emptied : IsCovered p hs' emptied.slots
    covered-emptied = IsCovered-follows p hs hs' slab.slots emptied.slots covered reclaims.recounts.counters

    -- what is put at the end of an emptied connection is put there
    from-emptied : {F : Type 0} (environment : Environment) (config : ServiceConfig) (v : Delivery)
        (handler : Option (BackpressureHandler F)) (result : Reception) (boxes' : ℕ → Mailbox) (number : ℕ → ℕ → ℕ)
        → PutsMessage environment config v handler (taking_buffers emptied p v.channel receivers) (number p v.slot) i
        (subscriber_of_key emptied (get_or keys i None)) (mailboxes_of number emptied p) (result_of result) boxes'
        → PutsMessage environment config v handler (taking_buffers slab p v.channel receivers) (number p v.slot) i
        (subscriber_of_key slab (get_or keys i None)) (mailboxes_of number slab p) (result_of result) boxes'
    from-emptied environment config v handler result boxes' number puts =
        subst (λ (end : Option ℕ). PutsMessage environment config v handler (taking_buffers slab p v.channel receivers)
        (number p v.slot) i end (mailboxes_of number slab p) (result_of result) boxes')
        (subscriber_of_key-same slab emptied reclaims.recounts.homes (get_or keys i None))
        (subst (λ (boxes : ℕ → Mailbox). PutsMessage environment config v handler
        (taking_buffers slab p v.channel receivers) (number p v.slot) i
        (subscriber_of_key emptied (get_or keys i None)) boxes (result_of result) boxes')
        (ap (λ (all : ℕ → ℕ → Mailbox). all p) (reclaims.mailboxes number))
        (subst (λ (buffers : ℕ → Option ℕ). PutsMessage environment config v handler buffers (number p v.slot) i
        (subscriber_of_key emptied (get_or keys i None)) (mailboxes_of number emptied p) (result_of result) boxes')
        (taking-same p v.channel slab emptied receivers ready.apart reclaims.recounts.homes) puts))

    -- a closed receiver is skipped, and so is a closed channel
    pub reclaim-passes : {F : Type 0} (environment : Environment) (config : ServiceConfig) (v : Delivery)
        (handler : Option (BackpressureHandler F)) → takes_at receivers i v.channel c ≡ false → (number : ℕ → ℕ → ℕ)
        → PutsMessage environment config v handler (taking_buffers slab p v.channel receivers) (number p v.slot) i
        (subscriber_of_key slab (get_or keys i None)) (mailboxes_of number slab p) Skipped
        (mailboxes_of number emptied p)
    reclaim-passes environment config v handler shut number =
        from-emptied environment config v handler Reception.Skipped (mailboxes_of number emptied p) number
        (put-passes i key ready-emptied at environment config v handler c stands_c shut number)

    -- its mark says what stands at its place
    pub reclaim-marked : c.is_open ≡ true → is_open_at receivers i c.home.subscriber ≡ true
    reclaim-marked marked = ap (λ (n : ℕ). is_open_at receivers n c.home.subscriber)
        (sym (home-of i key ready-emptied at c stands_c).place) ∙ ready-emptied.marked key c stands_c marked

    pub reclaim-recounts : Recounts p hs slab hs' emptied
    reclaim-recounts = reclaims.recounts

    -- ---- and then the put

    module _ (channel slot : ℕ) (overflow : Bool) (o : PutOutcome) (d : Link)
        (put : IsPut channel c slot overflow o d) where
      twice : with_value emptied key d ≡ with_value slab key d
      twice = ap (λ (slots : List (Option Link)). let s : Slab Link = record slab { slots = slots } in s)
          (set-set slab.slots key (Some c) (Some d))

      pub reclaim-can_leave : CanLeave o hs'
      reclaim-can_leave = put-can_leave p hs' emptied.slots key channel slot overflow c d o covered-emptied stands_c
          (home-of i key ready-emptied at c stands_c).publisher put

      module _ (own : HoldsItself p slot hs slab.slots) where
        own-emptied : HoldsItself p slot hs' emptied.slots
        own-emptied = own-still p slot hs hs' slab emptied own reclaims.recounts

        some : 0 < get_or hs' slot 0
        some = own-in_use p slot hs' emptied.slots own-emptied

        pub own-reclaimed : (slot < length hs') × (0 < get_or hs' slot 0)
        own-reclaimed = (in_range hs' slot some, some)

        pub put-recounted : Recounts p hs slab (recounted o slot hs') (with_value slab key d)
        put-recounted = subst (Recounts p hs slab (recounted o slot hs')) twice
            (Recounts-trans p hs hs' (recounted o slot hs') slab emptied (with_value emptied key d) reclaims.recounts
            (put-recounts i key ready-emptied at hs' channel slot overflow o c d
            (in_range hs' slot some) some covered-emptied stands_c put))

        pub put-grows : get_or (recounted o slot hs') slot 0 ≤ get_or hs slot 0 + 1
        put-grows = omega (arith, recounted-grows o slot hs' (in_range hs' slot some) reclaim-can_leave, r.shrinks slot)

        pub put-alone : GrowsAlone slot hs (recounted o slot hs')
        put-alone =
            record {
              others = λ n differs. omega (
                arith,
                (recounted-alone o slot hs' (in_range hs' slot some) reclaim-can_leave).others n differs,
                r.shrinks n,
              );
            }

    pub reclaim-puts : {F : Type 0} (environment : Environment) (config : ServiceConfig) (v : Delivery)
        (handler : Option (BackpressureHandler F)) (o : PutOutcome) (d : Link) (result : Reception) → v.publisher ≡ p
        → takes_at receivers i v.channel c ≡ true
        → IsPut v.channel c v.slot config.enable_safe_overflow o d
        → ComesTo environment config v handler i c.home.subscriber o (result_of result) → (number : ℕ → ℕ → ℕ)
        → PutsMessage environment config v handler (taking_buffers slab p v.channel receivers) (number p v.slot) i
        (subscriber_of_key slab (get_or keys i None)) (mailboxes_of number slab p) (result_of result)
        (mailboxes_of number (with_value slab key d) p)
    reclaim-puts environment config v handler o d result by_p receiving put comes number =
        from-emptied environment config v handler result (mailboxes_of number (with_value slab key d) p) number
        (subst (λ (s : Slab Link). PutsMessage environment config v handler
        (taking_buffers emptied p v.channel receivers) (number p v.slot) i
        (subscriber_of_key emptied (get_or keys i None)) (mailboxes_of number emptied p) (result_of result)
        (mailboxes_of number s p))
        (twice v.channel v.slot config.enable_safe_overflow o d put)
        (put-puts i key ready-emptied at environment config v handler o c d result by_p stands_c receiving put comes
        number))
