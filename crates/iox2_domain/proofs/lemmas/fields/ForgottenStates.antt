-- Ports forget connections: what the machine sees of it.
use Rattle.std.proofs.Common.{◌≡◌, ℕ, zero, suc, List, [], ◌∷◌, map, get_or, refl, ap, sym, ◌∙◌, arith}
use Rattle.std.specs.Prelude.{Contains}
use Rattle.std.specs.declared.option.Option.{Option}
use Rattle.std.specs.declared.option.Option.TheVariants.{None, Some}
use Rattle.std.specs.Option.{option_map}
use Rattle.slab.specs.Slab.{Slab}
use Rattle.iox2_connections.specs.Link.{Link}
use Rattle.iox2_machine.specs.machine.Places.{occupants}
use Rattle.iox2_machine.specs.machine.State.{State}
use Rattle.iox2_connections.specs.Mailboxes.{subscriber_of_key, publisher_of_key, receiver_ends}
use Rattle.iox2_domain.specs.Ports.{PublisherFields, SubscriberFields}
use Rattle.iox2_domain.specs.Kept.{state_of, port_named, ids}
use Rattle.iox2_domain.specs.Fields.{Fields, kept_of, publisher_of, subscriber_of, number_in_slot, blocked_send}
use Rattle.iox2_domain.specs.Invariant.{HasParts}
use Rattle.iox2_domain.specs.Midway.{IsMidway, with_channels_of}
use Rattle.iox2_domain.proofs.lemmas.containers.ChangedRecords.{map-agrees, ends-agree}
use Rattle.iox2_domain.proofs.lemmas.fields.Views.{mailboxes-are, held-before}
use Rattle.iox2_domain.proofs.lemmas.fields.LostConnections.{lost-boxes}
use Rattle.iox2_domain.proofs.lemmas.fields.ForgottenKeys.{Forgets, forgotten, forgotten-parts, loses, sender-key}
use Rattle.iox2_domain.proofs.lemmas.fields.ForgottenKeys.{receiver-key, expired-key}
use mathlib.Core.Path.{fun_ext}

-- keys that lead to the same publishers, in a list where nothing is missing
pub listed-agree : {B : Type 0} (f g : Option ℕ → B) → (keys : List ℕ)
    → ((key : ℕ) → Contains keys key → f (Some key) ≡ g (Some key)) → map f (map Some keys) ≡ map g (map Some keys)
listed-agree f g [] same = refl
listed-agree f g (key ∷ keys) same =
    λ i. same key (zero, omega arith, refl) i ∷ listed-agree f g keys
    (λ k has. same k (suc has.0, omega (arith, has.1), has.2)) i

module _ {T U : Type 0} (f : Fields T U) (parts : HasParts f) (publishers : List (Option PublisherFields))
    (subscribers : List (Option SubscriberFields)) (connections : Slab Link)
    (g : Forgets f publishers subscribers connections) where
  abbrev after : Fields T U
  after = forgotten f parts publishers subscribers connections g

  -- a publisher keeps its ends
  sender-same : (i : ℕ) (x : PublisherFields) → get_or publishers i None ≡ Some x
      → publisher_of f.books connections x ≡ publisher_of f.books f.connections x
  sender-same i x at = λ k. record (publisher_of f.books f.connections x) {
    port = record (publisher_of f.books f.connections x).port {
      ends = ends k;
      blocked = option_map (blocked_send (number_in_slot f.books x.id) (ends k)) x.blocked;
    };
  } where
    ends : map (subscriber_of_key connections) x.keys ≡ map (subscriber_of_key f.connections) x.keys
    ends = ends-agree (subscriber_of_key connections) (subscriber_of_key f.connections) refl x.keys (λ place key at_key.
        let to = sender-key f parts publishers subscribers connections g i place key x at at_key in
        ap (option_map (λ (c : Link). c.home.subscriber)) (to.2 ∙ sym to.1))

  publishers-same : map (option_map (publisher_of f.books connections)) publishers ≡ map
      (option_map (publisher_of f.books f.connections)) publishers
  publishers-same =
      map-agrees (publisher_of f.books connections) (publisher_of f.books f.connections) publishers sender-same

  -- the keys of a subscriber lead where they led
  pub ends-same : (i : ℕ) (y : SubscriberFields) → get_or subscribers i None ≡ Some y
      → receiver_ends connections y.keys ≡ receiver_ends f.connections y.keys
  ends-same i y at =
      ends-agree (publisher_of_key connections) (publisher_of_key f.connections) refl y.keys (λ place key at_key.
      let to = receiver-key f parts publishers subscribers connections g i place key y at at_key in
      ap (option_map (λ (c : Link). c.home.publisher)) (to.2 ∙ sym to.1))

  pub expired-same : (i : ℕ) (y : SubscriberFields) → get_or subscribers i None ≡ Some y
      → receiver_ends connections (map Some y.expired) ≡ receiver_ends f.connections (map Some y.expired)
  expired-same i y at =
      listed-agree (publisher_of_key connections) (publisher_of_key f.connections) y.expired (λ key among.
      let to = expired-key f parts publishers subscribers connections g i key y at among in
      ap (option_map (λ (c : Link). c.home.publisher)) (to.2 ∙ sym to.1))

  -- a subscriber that stands afterwards is seen the same
  receiver-same : (i : ℕ) (y : SubscriberFields) → get_or subscribers i None ≡ Some y
      → subscriber_of f.books connections y ≡ subscriber_of f.books f.connections y
  receiver-same i y at = λ k. record (subscriber_of f.books f.connections y) {
    port = record (subscriber_of f.books f.connections y).port
        { ends = ends-same i y at k; expired = occupants (expired-same i y at k) };
  }

  subscribers-same : map (option_map (subscriber_of f.books connections)) subscribers ≡ map
      (option_map (subscriber_of f.books f.connections)) subscribers
  subscribers-same =
      map-agrees (subscriber_of f.books connections) (subscriber_of f.books f.connections) subscribers receiver-same

  mailboxes-same : (state_of (kept_of after)).mailboxes ≡ (state_of (kept_of f)).mailboxes
  mailboxes-same = fun_ext (λ p. fun_ext (λ q. mailboxes-are after p q
      ∙ lost-boxes f.connections connections (loses f parts publishers subscribers connections g) parts.apart
      (number_in_slot f.books) p q ∙ sym (mailboxes-are f p q)))

  -- the machine sees the ports alone, and the channels of the connections that are left
  pub forgotten-is : state_of (kept_of after)
      ≡ record (state_of (kept_of (record f { publishers = publishers; subscribers = subscribers })))
      { channels = (state_of (kept_of after)).channels }
  forgotten-is = λ k. record (state_of (kept_of f)) {
    publishers = λ p. port_named p (publishers-same k);
    publisher_places = ids (publishers-same k);
    subscribers = λ q. port_named q (subscribers-same k);
    subscriber_places = ids (subscribers-same k);
    mailboxes = mailboxes-same k;
    channels = (state_of (kept_of after)).channels;
  }

-- subscribers alone forget connections in the midst of a step
pub forgotten-midway : {T U : Type 0} (f : Fields T U) (parts : HasParts f)
    (subscribers : List (Option SubscriberFields)) (connections : Slab Link)
    (g : Forgets f f.publishers subscribers connections)
    → (old : Fields T U) (s s' : State T U) (book : ℕ)
    → state_of (kept_of (forgotten f parts f.publishers subscribers connections g)) ≡ with_channels_of
    (forgotten f parts f.publishers subscribers connections g) s'
    → IsMidway old f s book → IsMidway old (forgotten f parts f.publishers subscribers connections g) s' book
forgotten-midway {T} {U} f parts subscribers connections g old s s' book is midway = record {
  consistent = forgotten-parts f parts f.publishers subscribers connections g;
  lone = midway.lone;
  kept_books = record { own = midway.kept_books.own; others = midway.kept_books.others };
  state = is;
  channels = λ key d at. let was = g.fewer key d at in midway.channels key d was;
  entries = midway.entries;
  places = midway.places;
  complete = λ p n held. midway.complete p n (held-before (state_of (kept_of f)) (state_of (kept_of after)) p n
      (λ q. ap (λ (t : State T U). t.mailboxes p q) seen)
      (λ w at_w. (
        w,
        sym (ap (λ (t : State T U). t.publishers p) seen) ∙ at_w,
        record { history = refl; blocked = refl },
      )) held);
} where
  after : Fields T U
  after = forgotten f parts f.publishers subscribers connections g

  seen : state_of (kept_of after) ≡ with_channels_of after (state_of (kept_of (record f { subscribers = subscribers })))
  seen = forgotten-is f parts f.publishers subscribers connections g
