-- Whether a publisher's sends are ever blocked or failed, as its record says.
use Rattle.std.proofs.Common.{◌≡◌, ◌<◌, Bool, true, false, ◌&&◌, ◌||◌, not, is_some, ◌⊎◌, inl, inr, ⊎_elim, refl, sym}
use Rattle.std.proofs.Common.{ap, subst, ◌∙◌, Option, None, Some}
use Rattle.std.specs.Prelude.{◌↔◌, IsTrue}
use Rattle.std.specs.Option.{option_map}
use Rattle.std.proofs.lemmas.Bool.{true≢false}
use Rattle.std.proofs.lemmas.Option.{none-some, same_Some}
use Rattle.iox2_machine.specs.machine.Records.{BlockedSend, Handler, Publisher}
use Rattle.iox2_machine.specs.declared.backpressure.BackpressureAction.{BackpressureAction}
use Rattle.iox2_machine.specs.declared.backpressure.BackpressureStrategy.{BackpressureStrategy}
use Rattle.iox2_machine.specs.declared.degradation.DegradationAction.{DegradationAction}
use Rattle.iox2_machine.specs.declared.key.Key.{Key}
use Rattle.iox2_connections.specs.Mailboxes.{sender_ends}
use Rattle.iox2_domain.specs.Boxes.{DomainBoxes}
use Rattle.iox2_domain.specs.Fields.{Fields, blocked_send, keeping, kept_of, number_in_slot, publisher_of}
use Rattle.iox2_domain.specs.Handlers.{may_fail, may_fail_update}
use Rattle.iox2_domain.specs.Invariant.{IsDomain}
use Rattle.iox2_domain.specs.Kept.{Kept, state_of}
use Rattle.iox2_domain.specs.declared.publisher_state.BlockedDelivery.{BlockedDelivery}
use Rattle.iox2_domain.proofs.lemmas.fields.ConnectionEnds.{publisher-stands}
use Rattle.iox2_pubsub.specs.Handlers.{is_never_hindered, may_wait}
use Rattle.iox2_pubsub.specs.Live.{NeverWaits, publisher_key}
use Rattle.iox2_pubsub.specs.declared.publisher.Publisher.{Publisher as Handle}
use Rattle.iox2_pubsub.proofs.LiveParts.{passes-from, passes-parts, unblocked-free, unblocked-parts, unfailed-from}
use Rattle.iox2_pubsub.proofs.LiveParts.{unfailed-parts}
use Rattle.iox2_pubsub.proofs.PlacedHandles.{StandsAtPlace}

undisturbed-parts : (blocked unconnected overflow waits fails : Bool)
    → (not (blocked || unconnected) && (overflow || not (waits || fails))) ≡ true
    → (blocked ≡ false) × (unconnected ≡ false) × ((overflow ≡ true) ⊎ ((waits ≡ false) × (fails ≡ false)))
undisturbed-parts true unconnected overflow waits fails e = absurd (true≢false (sym e))
undisturbed-parts false true overflow waits fails e = absurd (true≢false (sym e))
undisturbed-parts false false true waits fails e = (refl, refl, inl refl)
undisturbed-parts false false false true fails e = absurd (true≢false (sym e))
undisturbed-parts false false false false true e = absurd (true≢false (sym e))
undisturbed-parts false false false false false e = (refl, refl, inr (refl, refl))

undisturbed-from : (blocked unconnected overflow waits fails : Bool) → blocked ≡ false → unconnected ≡ false
    → (overflow ≡ true) ⊎ (waits ≡ false) → (overflow ≡ true) ⊎ (fails ≡ false)
    → (not (blocked || unconnected) && (overflow || not (waits || fails))) ≡ true
undisturbed-from true unconnected overflow waits fails free goes passes mild = absurd (true≢false free)
undisturbed-from false true overflow waits fails free goes passes mild = absurd (true≢false goes)
undisturbed-from false false true waits fails free goes passes mild = refl
undisturbed-from false false false true fails free goes passes mild =
    ⊎_elim (λ no. absurd (true≢false (sym no))) (λ no. absurd (true≢false no)) passes
undisturbed-from false false false false true free goes passes mild =
    ⊎_elim (λ no. absurd (true≢false (sym no))) (λ no. absurd (true≢false no)) mild
undisturbed-from false false false false false free goes passes mild = refl

-- what is left to test where the service doesn't overflow
pub undisturbed-else : (overflow is_blocked : Bool) (strategy : BackpressureStrategy)
    (handler : Option (Handler BackpressureAction)) (degradation : Handler DegradationAction) (stops : Bool)
    → is_blocked ≡ false
    → may_fail_update degradation ≡ false → overflow ≡ false → stops ≡ (may_wait strategy handler || may_fail handler)
    → not stops ≡ is_never_hindered overflow is_blocked strategy handler degradation
undisturbed-else overflow is_blocked strategy handler degradation stops free goes fits is =
    ap not is
    ∙ sym (ap (λ (b : Bool). not
    (b || may_fail_update degradation) && (overflow || not (may_wait strategy handler || may_fail handler))) free
    ∙ ap (λ (b : Bool). not (false || b) && (overflow || not (may_wait strategy handler || may_fail handler))) goes
    ∙ ap (λ (b : Bool). not (false || false) && (b || not (may_wait strategy handler || may_fail handler))) fits)

nothing-waits : {X : Type 0} (o : Option X) → is_some o ≡ false → o ≡ None
nothing-waits None none = refl
nothing-waits (Some x) none = absurd (true≢false none)

module _ {T U F G : Type 0} (kept : Kept T U F G) (key : Key) (x : Publisher)
    (here : (state_of kept).publishers key.port ≡ Some x) (low : key.port < (state_of kept).next_port) (answer : Bool)
    (is : answer ≡ is_never_hindered (kept.config).enable_safe_overflow
    (is_some x.blocked) x.backpressure_strategy x.backpressure_handler x.degradation_handler) where
  one : (y : Publisher) → (state_of kept).publishers key.port ≡ Some y → x ≡ y
  one y at = same_Some x y (sym here ∙ at)

  never : IsTrue answer → NeverWaits kept key
  never is-so =
      let parts = undisturbed-parts (is_some x.blocked) (may_fail_update x.degradation_handler)
      (kept.config).enable_safe_overflow (may_wait x.backpressure_strategy x.backpressure_handler)
      (may_fail x.backpressure_handler) (sym is ∙ is-so) in
      let none : x.blocked ≡ None = nothing-waits x.blocked parts.0 in
      record {
        passes = passes-from kept key (
          low,
          ⊎_elim
              (λ over. inl over)
              (λ mild.
              inr (λ y at. subst (λ (z : Publisher). may_wait z.backpressure_strategy z.backpressure_handler ≡ false)
              (one y at) mild.0)) parts.2,
        );
        unblocked = unblocked-free kept key (low, λ y at. subst (λ (z : Publisher). z.blocked ≡ None) (one y at) none);
        never_fails = unfailed-from kept key.port (
          low,
          ⊎_elim (λ over. inl over) (λ mild. inr
              (λ y at. subst (λ (z : Publisher). may_fail z.backpressure_handler ≡ false) (one y at) mild.1)) parts.2,
          λ y b at waits. absurd (none-some b (sym none ∙ ap (λ (z : Publisher). z.blocked) (one y at) ∙ waits)),
          λ y at. subst (λ (z : Publisher). may_fail_update z.degradation_handler ≡ false) (one y at) parts.1,
        );
      }

  sure : NeverWaits kept key → IsTrue answer
  sure waits =
      let unfailed = unfailed-parts kept key.port waits.never_fails in
      is ∙ undisturbed-from (is_some x.blocked) (may_fail_update x.degradation_handler)
      (kept.config).enable_safe_overflow (may_wait x.backpressure_strategy x.backpressure_handler)
      (may_fail x.backpressure_handler)
      (ap is_some ((unblocked-parts kept key waits.unblocked).1 x here)) (unfailed.3 x here)
      (⊎_elim (λ over. inl over) (λ mild. inr (mild x here)) (passes-parts kept key waits.passes).1)
      (⊎_elim (λ over. inl over) (λ mild. inr (mild x here)) unfailed.1)

  never-waits-tests : IsTrue answer ↔ NeverWaits kept key
  never-waits-tests = (never, sure)

-- the machine's record has a blocked send where the publisher's has
waits-alike : (f : BlockedDelivery → BlockedSend) (o : Option BlockedDelivery) → is_some o ≡ is_some (option_map f o)
waits-alike f None = refl
waits-alike f (Some b) = refl

module _ {T U F G : Type 0} {boxes : DomainBoxes F G} (f : Fields T U) (sound : IsDomain f) (kept : Kept T U F G)
    (view : keeping boxes f ≡ kept) (it : Handle) where
  pub never-waits-here : (answer : Bool) → (at : StandsAtPlace f it)
      → answer ≡ is_never_hindered (f.config).enable_safe_overflow (is_some (at.0).blocked) (at.0).strategy
      (at.0).backpressure_handler (at.0).degradation_handler → IsTrue answer ↔ NeverWaits kept (publisher_key it)
  never-waits-here answer at is =
      let port : Publisher = (publisher_of f.books f.connections at.0).port in
      let inside : (state_of (kept_of f)).publishers it.id ≡ Some port =
      ap (state_of (kept_of f)).publishers (sym at.2) ∙ publisher-stands f sound.parts it.place at.0 at.1 in
      subst (λ (k : Kept T U F G). IsTrue answer ↔ NeverWaits k (publisher_key it)) view
      (never-waits-tests (keeping boxes f) (publisher_key it) port inside
      ((sound.well_formed).publishers it.id port inside).is_known answer
      (is ∙ ap (λ (b : Bool). is_never_hindered (f.config).enable_safe_overflow b (at.0).strategy
      (at.0).backpressure_handler (at.0).degradation_handler)
      (waits-alike (blocked_send (number_in_slot f.books (at.0).id) (sender_ends f.connections (at.0).keys))
      (at.0).blocked)))
