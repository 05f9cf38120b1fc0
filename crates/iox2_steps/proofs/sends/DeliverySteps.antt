-- A publisher delivers a message.
use Rattle.std.proofs.Common.{◌≡◌, ℕ, ◌+◌, ◌||◌, Bool, true, false, List, [], ◌∷◌, ◌++◌, cond, arith, map, get_or, refl}
use Rattle.std.proofs.Common.{ap, sym, subst, ◌∙◌, ◌<◌, ◌≤◌, length, slice_set, set-set, drop}
use Rattle.std.specs.declared.option.Option.{Option}
use Rattle.std.specs.declared.option.Option.TheVariants.{None, Some}
use Rattle.std.specs.declared.time.Duration.{Duration}
use Rattle.std.specs.Option.{option_map}
use Rattle.std.specs.Prelude.{slice_get, nat_lt}
use Rattle.slab.specs.Slab.{Slab, get, with_value}
use Rattle.iox2_machine.specs.machine.Delivery.{PutResult, Complete, Suspended, Decides, Put, PutAtEnd, Deliver}
use Rattle.iox2_machine.specs.machine.Delivery.{by_strategy, by_action, is_blocking, is_failed, accepted_count, no_time}
use Rattle.iox2_connections.specs.Link.{Link}
use Rattle.iox2_machine.specs.machine.Mailbox.{Mailbox, has_room}
use Rattle.iox2_machine.specs.machine.Records.{Environment, Handler, Fixed, Custom}
use Rattle.iox2_slots.specs.SlotBook.{Book, holders_at, IsInUse}
use Rattle.iox2_machine.specs.declared.backpressure.BackpressureAction.{BackpressureAction}
use Rattle.iox2_machine.specs.declared.backpressure.BackpressureAction.TheVariants as actions
use Rattle.iox2_machine.specs.declared.backpressure.BackpressureInfo.{BackpressureInfo}
use Rattle.iox2_machine.specs.declared.backpressure.BackpressureStrategy.{BackpressureStrategy}
use Rattle.iox2_machine.specs.declared.backpressure.BackpressureStrategy.TheVariants.{DiscardData, RetryUntilDelivered}
use Rattle.iox2_machine.specs.declared.degradation.DegradationAction.{DegradationAction}
use Rattle.iox2_machine.specs.declared.degradation.DegradationCause.{DegradationCause}
use Rattle.iox2_machine.specs.declared.degradation.DegradationInfo.{DegradationInfo}
use Rattle.iox2_machine.specs.declared.service_config.ServiceConfig.{ServiceConfig}
use Rattle.iox2_connections.specs.Counters.{GrowsAlone, with_counters, HoldsItself, times}
use Rattle.iox2_connections.specs.Mailboxes.{mailboxes_of, sender_ends}
use Rattle.iox2_connections.specs.Receivers.{IsReadyToDeliver, taking_buffers, has_id}
use Rattle.iox2_connections.specs.Recounts.{Recounts}
use Rattle.iox2_laws.proofs.Cases.{by_bool}
use Rattle.iox2_domain.specs.Boxes.{BoxAnswers, box_of, answers_of}
use Rattle.iox2_domain.specs.Handlers.{AsksFor, is_failing, may_fail}
use Rattle.iox2_domain.specs.declared.boxes.PortBox.{PortBox}
use Rattle.iox2_domain.specs.declared.handlers.AskedBox.{AskedBox}
use Rattle.iox2_domain.specs.Ports.{PublisherFields}
use Rattle.iox2_domain.specs.Fields.{Fields, within_reach}
use Rattle.iox2_domain.specs.Invariant.{IsDomain, IsCounted, details_of, is_subscriber, holders_of, HasParts}
use Rattle.iox2_domain.specs.Deliveries.{CanSend, SendsSlot, leaving, DeliversFrom, sender_after, book_after}
use Rattle.iox2_domain.specs.Deliveries.{with_history_holder}
use Rattle.iox2_domain.proofs.lemmas.containers.LookUps.{IsOnly-map}
use Rattle.iox2_domain.proofs.lemmas.slots.PublisherBooks.{sender-linked, book-own}
use Rattle.iox2_domain.proofs.lemmas.slots.BookChanges.{holders-here}
use Rattle.iox2_domain.proofs.lemmas.slots.HeldMessages.{own-in_use as held-itself}
use Rattle.iox2_domain.proofs.lemmas.slots.RecountedLoans.{recounted_fields, parts-recounted}
use Rattle.std.proofs.lemmas.List.{get_or-set_same, length-set}
use Rattle.iox2_connections.proofs.MailboxChanges.{within_if_some}
use Rattle.iox2_connections.specs.Handlers.{asked, marks_of}
use Rattle.iox2_machine.specs.declared.backpressure_handler.BackpressureHandler.{BackpressureHandler}
use Rattle.iox2_machine.specs.declared.backpressure_handler.BackpressureHandler.TheVariants as handlers
use Rattle.iox2_connections.proofs.AnyEnvironment.{AllowsAsMuch, Deliver-any}
use Rattle.iox2_connections.proofs.Counts.{in_range, times-cons, one_if_same, get_or-one_holder_more}
use Rattle.iox2_connections.proofs.ReclaimedPuts.{own-in_use, own-still}
use Rattle.iox2_domain.proofs.lemmas.fields.OpenReceivers.{open-seen}
use Rattle.iox2_connections.specs.Deliveries.{begun, end_of}
use Rattle.iox2_connections.specs.declared.sender.Progress.{Progress}
use Rattle.iox2_connections.specs.declared.sender.DeliveryOutcome.{DeliveryOutcome}
use Rattle.iox2_domain.specs.declared.publisher_state.BlockedDelivery.{BlockedDelivery}
use Rattle.iox2_domain.specs.BlockedSends.{with_outcome, counters_after, GoesOn}
use Rattle.iox2_steps.proofs.sends.Reach.{reach-key}

strategy-passes : (s : BackpressureStrategy) → is_failed (by_strategy s) ≡ false
strategy-passes RetryUntilDelivered = refl
strategy-passes DiscardData = refl

action-passes : (s : BackpressureStrategy) (action : BackpressureAction) → is_failing action ≡ false
    → is_failed (by_action s action) ≡ false
action-passes s actions.FollowBackpressureyStrategy none = strategy-passes s
action-passes s actions.Retry none = refl
action-passes s actions.DiscardData none = refl
action-passes s actions.DiscardDataAndFail none = none

-- where no handler fails a send, what it answers fails none
pub decides-passes : (e : Environment) (p : ℕ) (strategy : BackpressureStrategy)
    (h : Option (Handler BackpressureAction)) → may_fail h ≡ false → (info : BackpressureInfo) (result : PutResult)
    → Decides e p h strategy info result → is_failed result ≡ false
decides-passes e p strategy None none info result d = ap is_failed d ∙ strategy-passes strategy
decides-passes e p strategy (Some (Fixed action)) none info result d =
    ap is_failed d ∙ action-passes strategy action none
decides-passes e p strategy (Some Custom) none info result d = absurd (let no : true ≡ false = none in cc)

module _ (e : Environment) (c : ServiceConfig) (p : ℕ) (strategy : BackpressureStrategy)
    (handler : Option (Handler BackpressureAction)) (passes : may_fail handler ≡ false)
    (buffers : ℕ → Option ℕ) (n channel : ℕ) where
  put-passes : (q retries : ℕ) (elapsed : Duration) (buffer : Option ℕ) (box : Mailbox) (result : PutResult)
      (box' : Mailbox)
      → Put e c p strategy handler buffers n channel q retries elapsed buffer box result box' → is_failed result ≡ false
  put-passes q retries elapsed None box result box' h = ap is_failed h.0
  put-passes q retries elapsed (Some buffer) box result box' h =
      by_bool (is_failed result ≡ false) (has_room channel buffer box || c.enable_safe_overflow) _ _ h
      (λ _ k. ap is_failed k.0) (λ _ k. decides-passes e p strategy handler passes _ result k.0)

  put_at_end-passes : (retries : ℕ) (elapsed : Duration) (end : Option ℕ) (boxes : ℕ → Mailbox) (result : PutResult)
      (boxes' : ℕ → Mailbox)
      → PutAtEnd e c p strategy handler buffers n channel retries elapsed end boxes result boxes'
      → is_failed result ≡ false
  put_at_end-passes retries elapsed None boxes result boxes' h = ap is_failed h.0
  put_at_end-passes retries elapsed (Some q) boxes result boxes' h =
      put-passes q retries elapsed (buffers q) (boxes q) result h.0 h.1

  -- where the handler fails no send, no receiver fails the delivery
  pub delivery-passes : (retries : ℕ) (elapsed : Duration) (place : ℕ) (ends : List (Option ℕ)) (count : ℕ)
      (has_failed : Bool) (boxes : ℕ → Mailbox) (boxes' : ℕ → Mailbox)
      → has_failed ≡ false → (took : ℕ) (failed : Bool)
      → Deliver e c p strategy handler buffers n channel retries elapsed place ends count has_failed boxes
      (Complete took failed) boxes' → failed ≡ false
  delivery-passes retries elapsed place [] count has_failed boxes boxes' none took failed h =
      let same : Complete took failed ≡ Complete count has_failed = h.0 in
      let is : failed ≡ has_failed = cc in
      is ∙ none
  delivery-passes retries elapsed place (end ∷ rest) count has_failed boxes boxes' none took failed h =
      let passed : is_failed h.0 ≡ false = put_at_end-passes retries elapsed end boxes h.0 h.1 h.2 in
      by_bool (failed ≡ false) (is_blocking h.0) _ _ h.3
      (λ _ k. absurd (let no : Complete took failed ≡ Suspended _ = k.0 in cc))
      (λ _ k. delivery-passes 0 no_time (place + 1) rest (count + accepted_count h.0)
      (has_failed || is_failed h.0) h.1 boxes' (λ t. none t || passed t) took failed k)

-- a delivery of a publisher whose handler fails no send, which hadn't failed so far, doesn't fail
pub never-fails : {T U : Type 0} (environment : Environment) (f : Fields T U) (x : PublisherFields) (channel : ℕ)
    (keys : List (Option ℕ)) (slot : ℕ) (start : Progress) (elapsed : Duration) (outcome : DeliveryOutcome)
    (new : Fields T U)
    → DeliversFrom environment f x channel keys slot start elapsed outcome new → may_fail x.backpressure_handler ≡ false
    → start.has_failed ≡ false
    → (count : ℕ) (has_failed : Bool) → outcome ≡ DeliveryOutcome.Complete count has_failed → has_failed ≡ false
never-fails environment f x channel keys slot start elapsed outcome new d none so_far count has_failed is =
    delivery-passes environment f.config x.id x.strategy x.backpressure_handler none
    (taking_buffers f.connections x.id channel (map (option_map details_of) f.subscribers)) 0 channel
    start.retries elapsed start.place (drop start.place (sender_ends f.connections keys)) start.count start.has_failed
    (mailboxes_of number f.connections x.id) (mailboxes_of number d.connections x.id)
    so_far count has_failed
    (subst (λ (o : DeliveryOutcome). Deliver environment f.config x.id x.strategy x.backpressure_handler
    (taking_buffers f.connections x.id channel (map (option_map details_of) f.subscribers)) 0
    channel start.retries elapsed start.place (drop start.place (sender_ends f.connections keys)) start.count
    start.has_failed (mailboxes_of number f.connections x.id)
    (end_of 0 channel (sender_ends f.connections keys) o) (mailboxes_of number d.connections x.id)) is
    (d.delivers number))
  where
    number : ℕ → ℕ → ℕ
    number p slot = 0

module _ {F G : Type 0} (allows : F → BackpressureInfo → BackpressureAction → Type 0) where
  -- what a box that is asked may answer
  abbrev pub Asked : AskedBox F G → BackpressureInfo → BackpressureAction → Type 0
  Asked a info action = BoxAnswers allows (box_of a.id (a.boxes.now).boxes) info action

  -- a handler that asks among these boxes answers as they do
  pub asks-boxes : (degrades : G → DegradationCause → DegradationInfo → DegradationAction → Type 0) (id : ℕ)
      (boxes : List (PortBox F G)) (h : Option (BackpressureHandler (AskedBox F G)))
      → AsksFor id boxes h → AllowsAsMuch (asked Asked h) (answers_of allows degrades boxes) id (marks_of h)
  asks-boxes degrades id boxes None asks = tt
  asks-boxes degrades id boxes (Some (handlers.Fixed action)) asks = tt
  asks-boxes degrades id boxes (Some (handlers.Custom a)) asks = λ info action answers.
      subst (λ (p : ℕ). BoxAnswers allows (box_of p boxes) info action) asks.0
      (subst (λ (all : List (PortBox F G)). BoxAnswers allows (box_of a.id all) info action) asks.1 answers)

module _ {T U : Type 0} (e e' : Environment) (old : Fields T U) (x : PublisherFields) (channel : ℕ)
    (keys : List (Option ℕ)) (slot : ℕ) (outcome : DeliveryOutcome) (new : Fields T U)
    (allows : AllowsAsMuch e e' x.id x.backpressure_handler) where
  delivers-alike : (start : Progress) (elapsed : Duration)
      → DeliversFrom e old x channel keys slot start elapsed outcome new
      → DeliversFrom e' old x channel keys slot start elapsed outcome new
  delivers-alike start elapsed d = record {
    book = d.book;
    stands = d.stands;
    holders = d.holders;
    connections = d.connections;
    delivered = d.delivered;
    recounts = d.recounts;
    alone = d.alone;
    delivers = λ number.
        Deliver-any e e' old.config x.id x.strategy x.backpressure_handler
        (taking_buffers old.connections x.id channel (map (option_map details_of) old.subscribers))
        (number x.id slot) channel allows
        start.retries elapsed start.place (drop start.place (sender_ends old.connections keys)) start.count
        start.has_failed (mailboxes_of number old.connections x.id)
        (end_of (number x.id slot) channel (sender_ends old.connections keys) outcome)
        (mailboxes_of number d.connections x.id) (d.delivers number);
  }

module _ {T U : Type 0} (e e' : Environment) (old : Fields T U) (place : ℕ) (x : PublisherFields)
    (outcome : DeliveryOutcome) (new : Fields T U) (allows : AllowsAsMuch e e' x.id x.backpressure_handler) where
  -- what is sent where a box may answer so is sent where it may answer as much
  pub sends-alike : (slot : ℕ) → SendsSlot e old place x slot outcome new → SendsSlot e' old place x slot outcome new
  sends-alike slot s = record {
    delivered = s.delivered;
    delivers = delivers-alike e e' old x 0 x.keys slot outcome s.delivered allows begun no_time s.delivers;
    book = s.book;
    stands = s.stands;
    ended = s.ended;
  }

  -- a blocked send that goes on where a box may answer so goes on where it may answer as much
  pub goes-alike : (b : BlockedDelivery) (start : Progress) (elapsed : Duration)
      → GoesOn e old place x b start elapsed outcome new → GoesOn e' old place x b start elapsed outcome new
  goes-alike b start elapsed s = record {
    delivered = s.delivered;
    delivers = delivers-alike e e' old x b.channel
        (within_reach b x.keys) b.slot outcome s.delivered allows start elapsed s.delivers;
    book = s.book;
    stands = s.stands;
    ended = s.ended;
  }

module _ {T U : Type 0} (f : Fields T U) (y : PublisherFields) (channel : ℕ) (keys : List (Option ℕ)) (slot : ℕ)
    (start : Progress) (elapsed : Duration) (outcome : DeliveryOutcome) (new : Slab Link) where
  -- the publisher's slot is delivered where this handler answers for it
  abbrev pub DeliversWith : Environment → Option (Handler BackpressureAction) → Type 0
  DeliversWith environment h = (number : ℕ → ℕ → ℕ)
      → Deliver environment f.config y.id y.strategy h
      (taking_buffers f.connections y.id channel (map (option_map details_of) f.subscribers)) (number y.id slot)
      channel start.retries elapsed start.place (drop start.place (sender_ends f.connections keys)) start.count
      start.has_failed (mailboxes_of number f.connections y.id)
      (end_of (number y.id slot) channel (sender_ends f.connections keys) outcome) (mailboxes_of number new y.id)

-- a slot in use is so with a holder more
pub history-holder-used : (o : DeliveryOutcome) (slot : ℕ) (b : Book) → slot < length b.holders → (r : ℕ)
    → r < length b.holders → 0 < holders_at b r → IsInUse (with_history_holder o slot b) r
history-holder-used (DeliveryOutcome.Complete count has_failed) slot b below r low some =
    record { in_bounds = low; in_use = some }
history-holder-used (DeliveryOutcome.Suspended progress) slot b below r low some = record {
  in_bounds = omega (arith, low, length-set b.holders slot (holders_at b slot + 1));
  in_use = omega (arith, some, get_or-one_holder_more b.holders slot r below);
}

module _ {T U : Type 0} (f : Fields T U) (parts : HasParts f) (i : ℕ) (x : PublisherFields)
    (stands : get_or f.publishers i None ≡ Some x) where
  -- a publisher may deliver
  pub ready-to-deliver : IsReadyToDeliver x.id f.connections x.keys (map (option_map details_of) f.subscribers)
  ready-to-deliver = record {
    linked = sender-linked f parts i x stands;
    apart = parts.apart;
    knows = parts.linked.knows;
    marked = λ key c at is. open-seen f.subscribers c (parts.linked.marked key c at is).receiver;
    one_id = λ q. IsOnly-map details_of (is_subscriber q) (has_id q) (λ y. refl) f.subscribers (parts.subscriber_ids q);
  }

-- a blocked delivery may go on to the keys in its reach
pub ready-to-go-on : {T U : Type 0} (f : Fields T U) (parts : HasParts f) (i : ℕ) (x : PublisherFields)
    (stands : get_or f.publishers i None ≡ Some x) (b : BlockedDelivery)
    → IsReadyToDeliver x.id f.connections (within_reach b x.keys) (map (option_map details_of) f.subscribers)
ready-to-go-on f parts i x stands b = record {
  linked = record { at = λ place key e. all.linked.at place key (reach-key b x.keys place key e) };
  apart = all.apart;
  knows = all.knows;
  marked = all.marked;
  one_id = all.one_id;
} where
  all : IsReadyToDeliver x.id f.connections x.keys (map (option_map details_of) f.subscribers)
  all = ready-to-deliver f parts i x stands

module _ {T U : Type 0} (environment : Environment) (before f : Fields T U) (same : f ≡ before) (i : ℕ)
    (y : PublisherFields) (stands : get_or f.publishers i None ≡ Some y) where
  -- this handler is the publisher's own
  pub delivers-own : (channel : ℕ) (keys : List (Option ℕ)) (slot : ℕ) (start : Progress) (elapsed : Duration)
      (outcome : DeliveryOutcome) (new : Slab Link) (h : Option (Handler BackpressureAction))
      → h ≡ y.backpressure_handler
      → DeliversWith f y channel keys slot start elapsed outcome new environment h
      → DeliversWith f y channel keys slot start elapsed outcome new environment y.backpressure_handler
  delivers-own channel keys slot start elapsed outcome new h own delivers =
      subst (λ (o : Option (Handler BackpressureAction)).
      DeliversWith f y channel keys slot start elapsed outcome new environment o) own delivers

  -- the delivery of the publisher that stands at the place
  module _ (b book : Book) (at : get f.books y.book ≡ Some b) (new : Slab Link)
      (is : book ≡ with_counters b book.holders) (r : Recounts y.id b.holders f.connections book.holders new)
      (channel : ℕ) (keys : List (Option ℕ)) (slot : ℕ) (start : Progress) (elapsed : Duration)
      (outcome : DeliveryOutcome) (alone : GrowsAlone slot b.holders book.holders)
      (delivers : (number : ℕ → ℕ → ℕ)
      → Deliver environment f.config y.id y.strategy y.backpressure_handler
      (taking_buffers f.connections y.id channel (map (option_map details_of) f.subscribers)) (number y.id slot)
      channel start.retries elapsed start.place (drop start.place (sender_ends f.connections keys)) start.count
      start.has_failed (mailboxes_of number f.connections y.id)
      (end_of (number y.id slot) channel (sender_ends f.connections keys) outcome) (mailboxes_of number new y.id)) where
    abbrev delivered : Fields T U
    delivered = record f { connections = new; books = with_value f.books y.book book }

    delivers-to : DeliversFrom environment f y channel keys slot start elapsed outcome
        (record f { connections = new; books = with_value f.books y.book book })
    delivers-to = record {
      book = b;
      stands = at;
      holders = book.holders;
      connections = new;
      delivered = ap (λ (c : Book). record f { connections = new; books = with_value f.books y.book c }) is;
      recounts = r;
      alone = alone;
      delivers = delivers;
    }

    book-there : get (delivered.books) y.book ≡ Some book
    book-there = get_or-set_same f.books.slots y.book (Some book) None (within_if_some f.books.slots y.book b at)

    twice : (c d : Book) → c ≡ d → with_value f.books y.book c ≡ with_value (with_value f.books y.book book) y.book d
    twice c d e = ap (with_value f.books y.book) e
        ∙ sym (ap (λ (books : List (Option Book)). let slab : Slab Book = record f.books { slots = books } in slab)
        (set-set f.books.slots y.book (Some book) (Some d)))

    it : (x : PublisherFields) → get_or before.publishers i None ≡ Some x → y ≡ x
    it x there =
        let both : Some y ≡ Some x = sym stands ∙ ap (λ (h : Fields T U). get_or h.publishers i None) same ∙ there in cc

  -- a blocked one that goes on, and its end
  module _ (w : BlockedDelivery) (b book : Book) (at : get f.books y.book ≡ Some b) (new : Slab Link)
      (is : book ≡ with_counters b book.holders) (r : Recounts y.id b.holders f.connections book.holders new)
      (start : Progress) (elapsed : Duration) (outcome : DeliveryOutcome)
      (alone : GrowsAlone w.slot b.holders book.holders)
      (delivers : DeliversWith f y w.channel
      (within_reach w y.keys) w.slot start elapsed outcome new environment y.backpressure_handler) where
    pub goes-slot : (out : PublisherFields) → out ≡ with_outcome outcome w y → (left : Book)
        → left ≡ with_counters book (counters_after outcome w.slot book.holders)
        → (x : PublisherFields) → get_or before.publishers i None ≡ Some x
        → GoesOn environment before i x w start elapsed outcome
        (record f {
          publishers = slice_set f.publishers i (Some out);
          connections = new;
          books = with_value f.books y.book left;
        })
    goes-slot out is_out left is_left x there =
        subst (λ (h : Fields T U). GoesOn environment h i x w start elapsed outcome made) same
        (subst (λ (z : PublisherFields). GoesOn environment f i z w start elapsed outcome made)
        (it b book at new is r w.channel (within_reach w y.keys) w.slot start elapsed outcome alone delivers x there)
        (record {
          delivered = record f { connections = new; books = with_value f.books y.book book };
          delivers = delivers-to b book at new is r w.channel
              (within_reach w y.keys) w.slot start elapsed outcome alone delivers;
          book = book;
          stands = book-there b book at new is r w.channel
              (within_reach w y.keys) w.slot start elapsed outcome alone delivers;
          ended = λ j. record f {
            publishers = slice_set f.publishers i (Some (is_out j));
            connections = new;
            books = twice b book at new is r w.channel (within_reach w y.keys) w.slot start elapsed outcome alone
                delivers left (with_counters book (counters_after outcome w.slot book.holders)) is_left j;
          };
        }))
      where
        made : Fields T U
        made = record f {
          publishers = slice_set f.publishers i (Some out);
          connections = new;
          books = with_value f.books y.book left;
        }

  -- a send and its end
  module _ (b book : Book) (at : get f.books y.book ≡ Some b) (new : Slab Link)
      (is : book ≡ with_counters b book.holders) (r : Recounts y.id b.holders f.connections book.holders new)
      (slot : ℕ) (outcome : DeliveryOutcome) (alone : GrowsAlone slot b.holders book.holders)
      (delivers : (number : ℕ → ℕ → ℕ)
      → Deliver environment f.config y.id y.strategy y.backpressure_handler
      (taking_buffers f.connections y.id 0 (map (option_map details_of) f.subscribers)) (number y.id slot)
      0 0 no_time 0 (sender_ends f.connections y.keys) 0 false (mailboxes_of number f.connections y.id)
      (end_of (number y.id slot) 0 (sender_ends f.connections y.keys) outcome) (mailboxes_of number new y.id)) where
    pub sends-slot : (out : PublisherFields) → out ≡ sender_after outcome slot y → (sent : Book)
        → sent ≡ book_after outcome slot y book
        → (x : PublisherFields) → get_or before.publishers i None ≡ Some x
        → SendsSlot environment before i x slot outcome
        (record f {
          publishers = slice_set f.publishers i (Some out);
          connections = new;
          books = with_value f.books y.book sent;
        })
    sends-slot out is_out sent is_sent x there =
        subst (λ (h : Fields T U). SendsSlot environment h i x slot outcome made) same
        (subst (λ (z : PublisherFields). SendsSlot environment f i z slot outcome made)
        (it b book at new is r 0 y.keys slot begun no_time outcome alone delivers x there) (record {
          delivered = record f { connections = new; books = with_value f.books y.book book };
          delivers = delivers-to b book at new is r 0 y.keys slot begun no_time outcome alone delivers;
          book = book;
          stands = book-there b book at new is r 0 y.keys slot begun no_time outcome alone delivers;
          ended = λ j. record f {
            publishers = slice_set f.publishers i (Some (is_out j));
            connections = new;
            books = twice b book at new is r 0 y.keys slot begun no_time outcome alone delivers sent
                (book_after outcome slot y book) is_sent j;
          };
        }))
      where
        made : Fields T U
        made = record f {
          publishers = slice_set f.publishers i (Some out);
          connections = new;
          books = with_value f.books y.book sent;
        }

module _ {T U : Type 0} (before f : Fields T U) (same : f ≡ before) (i slot : ℕ)
    (can : (x : PublisherFields) × (get_or before.publishers i None ≡ Some x) × CanSend before x slot)
    (y : PublisherFields) (stands : get_or f.publishers i None ≡ Some y) where
  sender-is : can.0 ≡ y
  sender-is = let both : Some can.0 ≡ Some y = sym can.1
      ∙ sym (ap (λ (h : Fields T U). get_or h.publishers i None) same) ∙ stands in cc

  -- it stands once among its loans
  pub sent-once : times slot y.loans ≤ 1
  sent-once = subst (λ (z : PublisherFields). times slot z.loans ≤ 1) sender-is can.2.once

  module _ (b : Book) (at : get f.books y.book ≡ Some b) where
    book-is : can.2.book ≡ b
    book-is =
        let both : Some can.2.book ≡ Some b =
        sym can.2.stands ∙ ap (λ (z : PublisherFields). get before.books z.book) sender-is
        ∙ sym (ap (λ (h : Fields T U). get h.books y.book) same) ∙ at in
        cc

    -- the publisher itself is the one holder of the slot
    pub sent-alone : holders_at b slot ≡ 1
    sent-alone = ap (λ (c : Book). holders_at c slot) (sym book-is) ∙ can.2.alone

    pub sent-own : HoldsItself y.id slot b.holders f.connections.slots
    sent-own = subst (λ (h : Fields T U). HoldsItself y.id slot b.holders h.connections.slots) (sym same)
        (subst (λ (z : PublisherFields). HoldsItself z.id slot b.holders before.connections.slots) sender-is
        (subst (λ (c : Book). HoldsItself (can.0).id slot c.holders before.connections.slots) book-is can.2.own))

    -- so the slot is in use after the delivery
    pub sent-in_use : (holders : List ℕ) (new : Slab Link) → Recounts y.id b.holders f.connections holders new
        → (slot < length holders) × (0 < get_or holders slot 0)
    sent-in_use holders new r =
        let some = own-in_use y.id slot holders new.slots
        (own-still y.id slot b.holders holders f.connections new sent-own r) in
        (in_range holders slot some, some)

    -- what leaves the history for it is in use then too
    pub leaves-in_use : IsDomain before → (holders : List ℕ) (new : Slab Link)
        → Recounts y.id b.holders f.connections holders new → (oldest : ℕ) → leaving y.history slot ≡ Some oldest
        → (oldest < length holders) × (0 < get_or holders oldest 0)
    leaves-in_use sound holders new r oldest leaves = (in_range holders oldest used, used) where
      here : IsDomain f
      here = subst (IsDomain {T = T} {U = U}) (sym same) sound

      mine : b.publisher ≡ y.id
      mine = book-own f here.parts i y stands b at

      counted : IsCounted (recounted_fields f here y.id y.book b at mine holders new r)
      counted = (parts-recounted f here y.id y.book b at mine holders new r).counted

      remembered : 0 < times oldest y.history.items → 0 < get_or holders oldest 0
      remembered some =
          let held : 0 < holders_of (recounted_fields f here y.id y.book b at mine holders new r).books y.id oldest =
          held-itself (recounted_fields f here y.id y.book b at mine holders new r) counted here.parts.publisher_ids i
          oldest y stands (omega (arith, some)) in
          let now : holders_of (recounted_fields f here y.id y.book b at mine holders new r).books y.id oldest
          ≡ get_or holders oldest 0 =
          holders-here f y.book b (with_counters b holders) at
          (record { publisher = refl; node = refl; numbers = refl; slots = r.slots }) here.parts.books.one_each y.id
          oldest mine in
          omega (arith, held, now)

      by : (items : List ℕ) → y.history.items ≡ items → slice_get (items ++ slot ∷ []) 0 ≡ Some oldest
          → 0 < get_or holders oldest 0
      by [] e first =
          let is : Some slot ≡ Some oldest = first in
          let it_is : slot ≡ oldest = cc in
          subst (λ (k : ℕ). 0 < get_or holders k 0) it_is (sent-in_use holders new r).1
      by (o ∷ os) e first =
          let is : Some o ≡ Some oldest = first in
          let it_is : o ≡ oldest = cc in
          remembered (subst (λ (k : ℕ). 0 < times k y.history.items) it_is
          (let all = ap (times o) e in omega (arith, all, times-cons o o os, one_if_same o)))

      some-leaves : (t : Bool) → cond t None (slice_get (y.history.items ++ slot ∷ []) 0) ≡ Some oldest
          → slice_get (y.history.items ++ slot ∷ []) 0 ≡ Some oldest
      some-leaves true e = absurd cc
      some-leaves false e = e

      used : 0 < get_or holders oldest 0
      used = by y.history.items refl (some-leaves (nat_lt (length y.history.items) y.history.capacity) leaves)
