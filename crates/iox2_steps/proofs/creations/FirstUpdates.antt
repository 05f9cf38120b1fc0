-- A new port's first update, of whose failure there is a warning.
use Rattle.std.proofs.Common.{◌≡◌, ℕ, Option, None, Some, false, get_or, refl, ap, sym, subst, ◌∙◌}
use Rattle.iox2_machine.specs.machine.Limits.{warning_limit}
use Rattle.iox2_machine.specs.machine.Ports.{with_failure_warning}
use Rattle.iox2_machine.specs.machine.Records.{Environment}
use Rattle.iox2_machine.specs.machine.State.{State, warned}
use Rattle.iox2_machine.specs.declared.errors.ConnectionFailure.{ConnectionFailure}
use Rattle.iox2_machine.specs.declared.warning.Warning.{Warning}
use Rattle.iox2_machine.specs.declared.warning.Warning.TheVariants.{PublisherPartlyConnected, SubscriberPartlyConnected}
use Rattle.iox2_laws.proofs.PortChanges.{with_warning_keeps}
use Rattle.iox2_domain.specs.WarningRing.{WarningRing, warning_ring}
use Rattle.iox2_domain.specs.Connects.{UpdatesKeptPublisher}
use Rattle.iox2_domain.specs.Ports.{PublisherFields, SubscriberFields}
use Rattle.iox2_domain.specs.Kept.{state_of}
use Rattle.iox2_domain.specs.Fields.{Fields, kept_of}
use Rattle.iox2_domain.specs.Invariant.{IsDomain}
use Rattle.iox2_domain.specs.Reaches.{Reaches}
use Rattle.iox2_domain.specs.ReceiverSteps.{UpdatesReceiver}
use Rattle.iox2_domain.specs.FirstUpdates.{PublisherFirstUpdates, SubscriberFirstUpdates, failure_warned}
use Rattle.iox2_domain.proofs.lemmas.containers.ChangedRecords.{changed-here}
use Rattle.iox2_domain.proofs.lemmas.fields.Parts.{whole_of}
use Rattle.iox2_domain.proofs.lemmas.fields.ReachesShows.{reaches-then}
use Rattle.iox2_domain.proofs.lemmas.fields.Views.{held-before}
use Rattle.iox2_steps.proofs.receivers.LeftChanges.{parts-warned}
use Rattle.iox2_domain.proofs.lemmas.receives.Reception.{updated, updated-stands, updated-reaches}
use Rattle.iox2_domain.proofs.lemmas.fields.PlacesKept.{places-still}

module _ {T U : Type 0} where
  -- warnings change, and nothing else
  warned-reaches : (f : Fields T U) → IsDomain f → (warnings : WarningRing) → warnings.capacity ≡ warning_limit
      → Reaches f (record f { warnings = warnings }) (record (state_of (kept_of f)) { warnings = warnings.items })
  warned-reaches f sound warnings room = record {
    agrees = whole_of (record f { warnings = warnings })
        (parts-warned f warnings sound.parts room) sound.lone sound.kept_books
        (with_warning_keeps (state_of (kept_of f)) sound.well_formed warnings.items)
        (λ p n held. sound.entries p n (held-before (state_of (kept_of f))
        (record (state_of (kept_of f)) { warnings = warnings.items }) p n (λ q. refl)
        (λ x at. (x, at, record { history = refl; blocked = refl })) held));
    state = refl;
    entries = λ n entry at. at;
    places = places-still;
  }

  failure-reaches : (f : Fields T U) → IsDomain f
      → (warning : ConnectionFailure → Warning) (failure : Option ConnectionFailure)
      → Reaches f (record f { warnings = warning_ring (failure_warned warning failure f.warnings.items) warning_limit })
      (with_failure_warning (state_of (kept_of f)) warning failure)
  failure-reaches f sound warning None = warned-reaches f sound (warning_ring f.warnings.items warning_limit) refl
  failure-reaches f sound warning (Some e) =
      warned-reaches f sound (warning_ring (warned f.warnings.items (warning e)) warning_limit) refl

  -- an update of a subscriber, and a warning of its failure, are a first update
  pub subscriber-first-updates : (environment : Environment) (f mid new : Fields T U) (place q : ℕ)
      (failure : Option ConnectionFailure) (y : SubscriberFields)
      → UpdatesReceiver environment f place y mid failure → get_or f.subscribers place None ≡ Some y → y.id ≡ q
      → new ≡ record mid {
        warnings = warning_ring (failure_warned (SubscriberPartlyConnected q) failure mid.warnings.items)
            warning_limit;
      } → SubscriberFirstUpdates environment f place y new
  subscriber-first-updates environment f mid new place q failure y u at its is = record {
    after = with_failure_warning (state_of (kept_of mid)) (SubscriberPartlyConnected q) failure;
    updates = (
      state_of (kept_of mid),
      failure,
      u.updates,
      ap (λ (r : ℕ). with_failure_warning (state_of (kept_of mid)) (SubscriberPartlyConnected r) failure) (sym its),
    );
    reaches = reaches-then f mid new (state_of (kept_of mid))
        (with_failure_warning (state_of (kept_of mid)) (SubscriberPartlyConnected q) failure)
        (updated-reaches environment f mid place y failure u)
        (subst (λ (g : Fields T U). Reaches mid g
        (with_failure_warning (state_of (kept_of mid)) (SubscriberPartlyConnected q) failure)) (sym is)
        (failure-reaches mid u.changes.agrees (SubscriberPartlyConnected q) failure));
    subscriber = updated environment f mid place y failure u;
    stands = ap (λ (g : Fields T U). get_or g.subscribers place None) is
        ∙ updated-stands environment f mid place y failure u at;
    is_its = refl;
  }

  -- an update of a publisher, and a warning of its failure, are a first update
  pub publisher-first-updates : (environment : Environment) (f mid new : Fields T U) (place p : ℕ)
      (failure : Option ConnectionFailure) (x : PublisherFields)
      → UpdatesKeptPublisher environment f place x mid failure → get_or f.publishers place None ≡ Some x → x.id ≡ p
      → new ≡ record mid
      { warnings = warning_ring (failure_warned (PublisherPartlyConnected p) failure mid.warnings.items) warning_limit }
      → PublisherFirstUpdates environment f place x new
  publisher-first-updates environment f mid new place p failure x u at its is = record {
    after = with_failure_warning u.after (PublisherPartlyConnected p) failure;
    updates = (
      u.after,
      failure,
      u.updates,
      ap (λ (r : ℕ). with_failure_warning u.after (PublisherPartlyConnected r) failure) (sym its),
    );
    reaches =
        reaches-then f mid new u.after (with_failure_warning u.after (PublisherPartlyConnected p) failure) u.reaches
        (subst (λ (s : State T U). Reaches mid new (with_failure_warning s (PublisherPartlyConnected p) failure))
        u.reaches.state
        (subst (λ (g : Fields T U).
        Reaches mid g (with_failure_warning (state_of (kept_of mid)) (PublisherPartlyConnected p) failure)) (sym is)
        (failure-reaches mid u.reaches.agrees (PublisherPartlyConnected p) failure)));
    publisher = record x { keys = u.keys; key_room = u.key_room; is_due = false };
    stands = ap (λ (g : Fields T U). get_or g.publishers place None) is
        ∙ ap (λ (g : Fields T U). get_or g.publishers place None) u.fields
        ∙ changed-here f.publishers place x (record x { keys = u.keys; key_room = u.key_room; is_due = false }) at;
    is_its = refl;
  }
