-- Every subscriber becomes due for an update.
use Rattle.std.proofs.Common.{◌≡◌, ℕ, map, get_or, refl, ap, sym, subst, ◌∙◌, inl, inr, true}
use Rattle.std.specs.declared.option.Option.TheVariants.{None, Some}
use Rattle.std.specs.Option.{option_map}
use Rattle.iox2_machine.specs.machine.Records.{Subscriber}
use Rattle.iox2_machine.specs.machine.State.{subscribers_due}
use Rattle.iox2_laws.proofs.PortChanges.{subscribers_due_keeps}
use Rattle.iox2_domain.specs.Ports.{SubscriberFields}
use Rattle.iox2_domain.specs.Kept.{state_of}
use Rattle.iox2_domain.specs.Fields.{Fields, kept_of, subscriber_of}
use Rattle.iox2_domain.specs.Invariant.{HasParts, IsDomain}
use Rattle.iox2_domain.proofs.lemmas.containers.LookUps.{map-at, viewed}
use Rattle.iox2_domain.proofs.lemmas.containers.MappedPorts.{mapped-ids, mapped-ports}
use Rattle.iox2_domain.proofs.lemmas.fields.ForgetfulSubscribers.{subscribers-forget}
use Rattle.iox2_domain.proofs.lemmas.fields.ForgottenKeys.{ForgetsReceiverKeys, Forgets, forgotten-parts}
use Rattle.iox2_domain.proofs.lemmas.fields.OpenReceivers.{open-still}
use Rattle.iox2_domain.proofs.lemmas.fields.Views.{held-before}
use mathlib.Core.Path.{fun_ext}

-- The subscriber, due for an update.
abbrev pub subscriber_due : SubscriberFields → SubscriberFields
subscriber_due y = record y { is_due = true }

-- the fields with every subscriber due
abbrev pub with_subscribers_due : {T U : Type 0} → Fields T U → Fields T U
with_subscribers_due f = record f { subscribers = map (option_map subscriber_due) f.subscribers }

-- the machine's subscriber, due
abbrev due_subscriber : Subscriber → Subscriber
due_subscriber y = record y { is_due = true }

module _ {T U : Type 0} (f : Fields T U) where
  -- the machine's step
  pub subscribers_due-are : state_of (kept_of (with_subscribers_due f)) ≡ subscribers_due (state_of (kept_of f))
  subscribers_due-are = λ i. record (state_of (kept_of f)) {
    subscribers = all i;
    subscriber_places =
        mapped-ids (subscriber_of f.books f.connections) subscriber_due due_subscriber (λ y. refl) f.subscribers i;
  } where
    all : (state_of (kept_of (with_subscribers_due f))).subscribers
        ≡ (subscribers_due (state_of (kept_of f))).subscribers
    all = fun_ext (λ q.
        mapped-ports (subscriber_of f.books f.connections) subscriber_due due_subscriber (λ y. refl) q f.subscribers)

  stands-due : (i : ℕ) (y : SubscriberFields) → get_or f.subscribers i None ≡ Some y
      → get_or (map (option_map subscriber_due) f.subscribers) i None ≡ Some (subscriber_due y)
  stands-due i y at = map-at subscriber_due f.subscribers i ∙ ap (option_map subscriber_due) at

  forgets-due : HasParts f → Forgets f f.publishers (map (option_map subscriber_due) f.subscribers) f.connections
  forgets-due parts = subscribers-forget f parts (map (option_map subscriber_due) f.subscribers) f.connections (record {
    receivers = λ i y at. let was = viewed subscriber_due f.subscribers i y at in
        (was.0, was.1, subst (ForgetsReceiverKeys was.0) (sym was.2) (same was.0));
    fewer = λ key c at. at;
    gone = λ key c at none. absurd (let no : None ≡ Some c = sym none ∙ at in cc);
    still = λ key c at has. inr (record {
      subscriber = subscriber_due has.subscriber;
      stands = stands-due c.home.subscriber_place has.subscriber has.stands;
      is_its = has.is_its;
      has = has.has;
    });
    opens = λ key c at is has. open-still f.subscribers (map (option_map subscriber_due) f.subscribers) c
        (λ z at_z. (subscriber_due z, stands-due c.home.subscriber_place z at_z, refl, refl)) has;
  }) where
    same : (y : SubscriberFields) → ForgetsReceiverKeys y (subscriber_due y)
    same y = record { fields = refl; keys = λ i key at. at; expired = λ key has. inl has }

  -- the invariant is kept
  pub subscribers_due-agree : IsDomain f → IsDomain (with_subscribers_due f)
  subscribers_due-agree sound = record {
    parts = forgotten-parts f sound.parts f.publishers (map (option_map subscriber_due) f.subscribers) f.connections
        (forgets-due sound.parts);
    kept_books = sound.kept_books;
    lone = sound.lone;
    well_formed = rw subscribers_due-are (subscribers_due_keeps (state_of (kept_of f)) sound.well_formed);
    entries = λ p n held. sound.entries p n
        (held-before (state_of (kept_of f)) (state_of (kept_of (with_subscribers_due f))) p n (λ q. refl)
        (λ y at. (y, at, record { history = refl; blocked = refl })) held);
  }
