-- Every publisher becomes due for an update.
use Rattle.std.proofs.Common.{◌≡◌, ℕ, map, true, get_or, refl, ap, sym, subst, ◌∙◌, inl, inr}
use Rattle.std.specs.declared.option.Option.{Option}
use Rattle.std.specs.declared.option.Option.TheVariants.{None, Some}
use Rattle.std.specs.Option.{option_map}
use Rattle.iox2_connections.specs.Link.{Link}
use Rattle.iox2_machine.specs.machine.Records.{Publisher}
use Rattle.iox2_machine.specs.machine.State.{State, publishers_due}
use Rattle.iox2_machine.specs.Stored.{IsHeldMessage}
use Rattle.iox2_laws.proofs.PortChanges.{publishers_due_keeps}
use Rattle.iox2_domain.specs.Ports.{PublisherFields}
use Rattle.iox2_domain.specs.Kept.{state_of, port_named}
use Rattle.iox2_domain.specs.Fields.{Fields, kept_of, publisher_of}
use Rattle.iox2_domain.specs.Invariant.{IsDomain, IsOwned, IsGone, SenderHas, HasParts}
use Rattle.iox2_domain.specs.Midway.{IsMidway}
use Rattle.iox2_domain.proofs.lemmas.containers.LookUps.{map-at, viewed}
use Rattle.iox2_domain.proofs.lemmas.containers.MappedPorts.{mapped-ids, mapped-ports}
use Rattle.iox2_domain.proofs.lemmas.fields.ForgottenKeys.{ForgetsSenderKeys, Forgets, forgotten-parts, owned-still}
use Rattle.iox2_domain.proofs.lemmas.fields.ForgottenKeys.{gone-still}
use Rattle.iox2_domain.proofs.lemmas.fields.Parts.{whole_of}
use Rattle.iox2_domain.proofs.lemmas.fields.Views.{KeepsHeld, held-before}
use mathlib.Core.Path.{fun_ext}

-- The publisher, due for an update.
abbrev pub due : PublisherFields → PublisherFields
due x = record x { is_due = true }

-- the fields with every publisher due
abbrev pub with_publishers_due : {T U : Type 0} → Fields T U → Fields T U
with_publishers_due f = record f { publishers = map (option_map due) f.publishers }

-- the machine's publisher, due
abbrev due_publisher : Publisher → Publisher
due_publisher x = record x { is_due = true }

module _ {T U : Type 0} (f : Fields T U) where
  named-due : (p : ℕ) → (state_of (kept_of (with_publishers_due f))).publishers p ≡ option_map due_publisher
      ((state_of (kept_of f)).publishers p)
  named-due p = mapped-ports (publisher_of f.books f.connections) due due_publisher (λ x. refl) p f.publishers

  -- the machine's step
  pub publishers_due-are : state_of (kept_of (with_publishers_due f)) ≡ publishers_due (state_of (kept_of f))
  publishers_due-are = λ i. record (state_of (kept_of f)) {
    publishers = all i;
    publisher_places = mapped-ids (publisher_of f.books f.connections) due due_publisher (λ x. refl) f.publishers i;
  } where
    all : (state_of (kept_of (with_publishers_due f))).publishers ≡ (publishers_due (state_of (kept_of f))).publishers
    all = fun_ext named-due

  pub is_due : (i : ℕ) (x : PublisherFields) → get_or (map (option_map due) f.publishers) i None ≡ Some x
      → (y : PublisherFields) × (get_or f.publishers i None ≡ Some y) × (x ≡ due y)
  is_due i x at = viewed due f.publishers i x at

  stands-due : (i : ℕ) (x : PublisherFields) → get_or f.publishers i None ≡ Some x
      → get_or (map (option_map due) f.publishers) i None ≡ Some (due x)
  stands-due i x at = map-at due f.publishers i ∙ ap (option_map due) at

  sender-due : (key : ℕ) (c : Link) → SenderHas f.publishers key c → SenderHas (map (option_map due) f.publishers) key c
  sender-due key c has = record {
    publisher = due has.publisher;
    stands = stands-due c.home.publisher_place has.publisher has.stands;
    is_its = has.is_its;
    has = has.has;
  }

  keys-due : (x : PublisherFields) → ForgetsSenderKeys x (due x)
  keys-due x = record { fields = refl; keys = λ i key at. at }

  forgets-due : HasParts f → Forgets f (map (option_map due) f.publishers) f.subscribers f.connections
  forgets-due parts = record {
    senders = λ i x at. let was = is_due i x at in
        (was.0, was.1, subst (ForgetsSenderKeys was.0) (sym was.2) (keys-due was.0));
    senders_stay = λ i x at. (due x, stands-due i x at, keys-due x);
    receivers = λ i y at. (y, at, record { fields = refl; keys = λ k key at. at; expired = λ key has. inl has });
    fewer = λ key c at. at;
    gone = λ key c at none. absurd (let no : None ≡ Some c = sym none ∙ at in cc);
    ends = λ key c at. elim (parts.linked.ends key c at) [ inl has ↦ inl (sender-due key c has) | inr has ↦ inr has ];
    returned = λ key c at.
        elim (parts.linked.returned key c at) [ inl has ↦ inl (sender-due key c has) | inr none ↦ inr none ];
    marked = λ key c at is. let both = parts.linked.marked key c at is in
        record { sender = sender-due key c both.sender; receiver = both.receiver };
  }

  -- the fields still agree with one another
  pub publishers_due-consistent : HasParts f → HasParts (with_publishers_due f)
  publishers_due-consistent parts =
      forgotten-parts f parts (map (option_map due) f.publishers) f.subscribers f.connections (forgets-due parts)

  -- whoever holds a message then held it before
  pub held-due : (p n : ℕ) → IsHeldMessage (state_of (kept_of (with_publishers_due f))) p n
      → IsHeldMessage (state_of (kept_of f)) p n
  held-due p n held =
      held-before (state_of (kept_of f)) (state_of (kept_of (with_publishers_due f))) p n (λ q. refl)
      (λ y at. was p y (port_named p (kept_of f).publishers) refl (sym (named-due p) ∙ at)) held
    where
      was : (p : ℕ) (y : Publisher) (o : Option Publisher) → (state_of (kept_of f)).publishers p ≡ o
          → option_map due_publisher o ≡ Some y
          → (x : Publisher) × ((state_of (kept_of f)).publishers p ≡ Some x) × KeepsHeld x y
      was p y None e at = absurd cc
      was p y (Some x) e at = let same : Some (due_publisher x) ≡ Some y = at in let is : due_publisher x ≡ y = cc in (
        x,
        e,
        record { history = ap (λ (z : Publisher). z.history) is; blocked = ap (λ (z : Publisher). z.blocked) is },
      )

  -- each book is somebody's still, or left
  pub owned-due : HasParts f → (key p : ℕ) → IsOwned f.publishers key p
      → IsOwned (map (option_map due) f.publishers) key p
  owned-due parts =
      owned-still f parts (map (option_map due) f.publishers) f.subscribers f.connections (forgets-due parts)

  pub gone-due : HasParts f → (p : ℕ) → IsGone f.next_port f.publishers p
      → IsGone f.next_port (map (option_map due) f.publishers) p
  gone-due parts =
      gone-still f parts (map (option_map due) f.publishers) f.subscribers f.connections (forgets-due parts)

  -- the invariant is kept
  pub publishers_due-agree : IsDomain f → IsDomain (with_publishers_due f)
  publishers_due-agree sound =
      whole_of (with_publishers_due f) (publishers_due-consistent sound.parts) sound.lone
      (record {
        at = λ key b at. elim (sound.kept_books.at key b at) [
          | inl owned ↦ inl (owned-due sound.parts key b.publisher owned)
          | inr left ↦ inr (gone-due sound.parts b.publisher left.0, left.1)
        ];
      })
      (rw publishers_due-are (publishers_due_keeps (state_of (kept_of f)) sound.well_formed))
      (λ p n held. sound.entries p n (held-due p n held))

  -- so it is in the midst of a step
  pub publishers_due-midway : (old : Fields T U) (s : State T U) (book : ℕ) → IsMidway old f s book
      → IsMidway old (with_publishers_due f) (publishers_due s) book
  publishers_due-midway old s book midway = record {
    consistent = publishers_due-consistent midway.consistent;
    lone = midway.lone;
    kept_books = record {
      own = λ b at. elim (midway.kept_books.own b at) [
        | inl owned ↦ inl (owned-due midway.consistent book b.publisher owned)
        | inr gone ↦ inr (gone-due midway.consistent b.publisher gone)
      ];
      others = λ k b away at. elim (midway.kept_books.others k b away at) [
        | inl owned ↦ inl (owned-due midway.consistent k b.publisher owned)
        | inr left ↦ inr (gone-due midway.consistent b.publisher left.0, left.1)
      ];
    };
    state = publishers_due-are ∙ ap publishers_due midway.state;
    channels = midway.channels;
    entries = midway.entries;
    places = midway.places;
    complete = λ p n held. midway.complete p n (held-due p n held);
  }
