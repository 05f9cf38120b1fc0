-- A loan is sent to one connection: what each call on the way needs, and what they come to together.
use Rattle.std.proofs.Common.{◌≡◌, ℕ, ◌<◌, false, length, get_or, refl, ap, sym, subst, ◌∙◌}
use Rattle.std.proofs.lemmas.Bool.{eq-eqb}
use Rattle.std.proofs.lemmas.Option.{same_Some}
use Rattle.std.specs.declared.option.Option.TheVariants.{None, Some}
use Rattle.slab.specs.Slab.{get}
use Rattle.iox2_slots.specs.SlotBook.{Book}
use Rattle.iox2_machine.specs.machine.Delivery.{no_time}
use Rattle.iox2_machine.specs.machine.Limits.{channel_count}
use Rattle.iox2_machine.specs.machine.Records.{Loan, Environment}
use Rattle.iox2_machine.specs.machine.State.{is_blocked}
use Rattle.iox2_connections.specs.declared.sender.Progress.{Progress}
use Rattle.iox2_connections.specs.declared.sender.DeliveryOutcome.{DeliveryOutcome}
use Rattle.iox2_connections.specs.Receivers.{HasReclaimed}
use Rattle.iox2_domain.specs.BlockedSends.{GoesOn}
use Rattle.iox2_domain.specs.ConnectionSends.{begun_at, begun_delivery, with_begun, SendsKeptLoanTo}
use Rattle.iox2_domain.specs.Deliveries.{result_of_delivery}
use Rattle.iox2_domain.specs.Fields.{Fields, kept_of}
use Rattle.iox2_domain.specs.Invariant.{IsDomain}
use Rattle.iox2_domain.specs.Kept.{Lent_message, state_of}
use Rattle.iox2_domain.specs.LoanCalls.{HoldsWritten}
use Rattle.iox2_domain.specs.LoanSlots.{LiesInSlot}
use Rattle.iox2_domain.specs.Ports.{PublisherFields}
use Rattle.iox2_domain.specs.Reaches.{Reaches}
use Rattle.iox2_domain.specs.declared.publisher_state.BlockedDelivery.{BlockedDelivery}
use Rattle.iox2_domain.proofs.lemmas.fields.ConnectionEnds.{free-of}
use Rattle.iox2_domain.proofs.lemmas.slots.Messages.{lies_at, message_at-slot}
use Rattle.iox2_steps.proofs.sends.Begun.{begun-agrees, begun-sends, waiter-stands}
use Rattle.iox2_steps.proofs.sends.BlockedSteps.{can-retry}
use Rattle.iox2_messages.specs.BlockedPublishers.{CanTakeUp}

module _ {T U : Type 0} (f : Fields T U) (sound : IsDomain f) (p n place : ℕ)
    (holds : HoldsWritten (state_of (kept_of f)) p n) (free : is_blocked (state_of (kept_of f)) p ≡ false)
    (found : (x : PublisherFields) × (get_or f.publishers place None ≡ Some x) × (x.id ≡ p)) (channel connection : ℕ)
    (known : channel < channel_count f.config)
    (link : ℕ) (linked : get_or found.0.keys connection None ≡ Some link) (key slot : ℕ)
    (at : LiesInSlot f p n key slot) where
  abbrev x : PublisherFields
  x = found.0

  unblocked : x.blocked ≡ None
  unblocked = free-of f sound.parts p place x found.1 found.2 free

  key-is : key ≡ x.book
  key-is =
      let has = sound.parts.books.publishers place x found.1 in
      (sound.parts.books.one_each p).one key x.book at.book has.book at.stands has.stands
      (eq-eqb (at.book).publisher p at.is_its) (eq-eqb (has.book).publisher p (has.is_its ∙ found.2))

  stands : get f.books x.book ≡ Some at.book
  stands = ap (get f.books) (sym key-is) ∙ at.stands

  lies : lies_at f x.book slot ≡ Some (Lent_message n holds.0)
  lies =
      let same : at.loan ≡ holds.0 = same_Some at.loan holds.0 (sym at.is_out ∙ holds.1) in
      sym (ap (λ (k : ℕ). lies_at f k slot) key-is) ∙ message_at-slot f.contents f.books key slot at.book at.stands
      ∙ at.lies ∙ ap (λ (l : Loan T U). Some (Lent_message n l)) same

  -- it may begin
  pub may-begin : (y : PublisherFields) × (b : Book) × (get_or f.publishers place None ≡ Some y)
      × (get f.books y.book ≡ Some b) × (slot < length b.holders)
  may-begin = (x, at.book, found.1, stands, at.loan_slot.in_bounds)

  abbrev w : BlockedDelivery
  w = begun_delivery slot channel connection

  abbrev begun : Fields T U
  begun = with_begun f place x w at.book

  agrees : IsDomain begun
  agrees = begun-agrees f sound place x found.1 slot n holds.0 lies holds.3 unblocked channel connection known link
      linked at.book stands

  module _ (f1 : Fields T U) (begins : (y : PublisherFields) (b : Book) → get_or f.publishers place None ≡ Some y
      → get f.books y.book ≡ Some b → f1 ≡ with_begun f place y w b) where
    is : f1 ≡ begun
    is = begins x at.book found.1 stands

    pub begun-is-domain : IsDomain f1
    begun-is-domain = subst (IsDomain {T = T} {U = U}) (sym is) agrees

    abbrev waiter : PublisherFields
    waiter = record x { blocked = Some w }

    pub stands1 : get_or f1.publishers place None ≡ Some waiter
    stands1 = ap (λ (h : Fields T U). get_or h.publishers place None) is
        ∙ waiter-stands f sound place x found.1 slot n holds.0 lies holds.3 unblocked channel connection known link
        linked at.book stands

    pub begun-stands : (y : PublisherFields) × (get_or f1.publishers place None ≡ Some y)
    begun-stands = (waiter, stands1)

    module _ (f2 : Fields T U) (reaches : Reaches f1 f2 (state_of (kept_of f1)))
        (only : f2 ≡ record f1 { connections = f2.connections; books = f2.books })
        (reclaimed : (y : PublisherFields) → get_or f1.publishers place None ≡ Some y
        → HasReclaimed f2.connections y.keys) where
      pub stands2 : get_or f2.publishers place None ≡ Some waiter
      stands2 = ap (λ (h : Fields T U). get_or h.publishers place None) only ∙ stands1

      abbrev pub may-go-on : (start : Progress) → start ≡ begun_at connection → CanTakeUp f2 place start
      may-go-on start from = record {
        agrees = reaches.agrees;
        publisher = waiter;
        stands = stands2;
        delivery = w;
        waits = refl;
        can = can-retry f2 reaches.agrees place waiter stands2 w refl start (ap (λ (v : Progress). v.place) from)
            (ap (λ (v : Progress). v.count) from);
        reclaimed = reclaimed waiter stands1;
      }

      pub sends-there : (environment : Environment) (start : Progress) → start ≡ begun_at connection
          → (outcome : DeliveryOutcome) (f3 : Fields T U)
          → ((may : CanTakeUp f2 place start)
          → GoesOn environment f2 place may.publisher may.delivery start no_time outcome f3)
          → SendsKeptLoanTo environment f f3 n channel connection (result_of_delivery outcome)
      sends-there environment start from outcome f3 goes =
          begun-sends f sound place x found.1 slot n holds.0 lies holds.3 unblocked channel connection known link linked
          at.book stands environment f2
          (subst (λ (h : Fields T U). Reaches h f2 (state_of (kept_of h))) is reaches) stands2
          (may-go-on (begun_at connection) refl).can outcome f3
          (subst (λ (v : Progress). GoesOn environment f2 place waiter w v no_time outcome f3) from
          (goes (may-go-on start from)))
