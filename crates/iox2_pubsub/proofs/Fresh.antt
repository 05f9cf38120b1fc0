-- A new domain.
use Rattle.std.proofs.Common.{◌≡◌, ℕ, zero, suc, List, [], Bool, refl, sym, subst, slice_index_or}
use Rattle.std.specs.declared.option.Option.{Option}
use Rattle.std.specs.declared.option.Option.TheVariants.{None, Some}
use Rattle.slab.specs.Slab.{Slab}
use Rattle.iox2_machine.specs.machine.Limits.{warning_limit}
use Rattle.iox2_connections.specs.Link.{Link}
use Rattle.iox2_slots.specs.SlotBook.{Book}
use Rattle.iox2_machine.specs.machine.State.{fresh, no_messages, no_warnings}
use Rattle.iox2_machine.specs.declared.service_config.ServiceConfig.{ServiceConfig}
use Rattle.iox2_connections.specs.LookUp.{IsOnly}
use Rattle.iox2_laws.proofs.Enough.{fresh_is_well_formed}
use Rattle.iox2_domain.specs.WarningRing.{warning_ring}
use Rattle.iox2_domain.specs.Fields.{Fields, kept_of}
use Rattle.iox2_domain.specs.Invariant.{IsDomain, IsLinked, HasBooks, IsNumbered}
use Rattle.iox2_domain.specs.FreshFields.{IsFresh}
use Rattle.iox2_machine.specs.Stored.{In_history, In_mailbox, In_blocked_send}
use Rattle.iox2_domain.specs.Shows.{Shows, KeepsEntries}

-- at no place of an empty list stands anything
nothing_at : {A : Type 0} (i : ℕ) (x : A) → slice_index_or {A = Option A} [] i None ≡ Some x → ⊥
nothing_at {A} zero x e = cc
nothing_at {A} (suc i) x e = cc

none_only : {A : Type 0} (test : A → Bool) → IsOnly test []
none_only test = record { one = λ i j x y at _ _ _. absurd (nothing_at i x at) }

-- the fields of a new domain, whose slabs have no value
abbrev pub fresh_fields : {T U : Type 0} → ServiceConfig → Slab Link → Slab Book → Fields T U
fresh_fields config connections books = record {
  config = config;
  next_port = 1;
  next_message = 1;
  warnings = warning_ring no_warnings warning_limit;
  publishers = [];
  subscribers = [];
  connections = connections;
  books = books;
  contents = [];
}

-- a slab with no value
abbrev empty_slab : {A : Type 0} → (vacant_key capacity : ℕ) → Slab A
empty_slab v c = record { slots = []; vacant_key = v; capacity = c }

numbered : (v c : ℕ) → IsNumbered 1 (empty_slab v c)
numbered v c = record {
  one = λ key key' slot slot' number here there. absurd (nothing_at key here.book here.stands);
  below = λ key slot number here. absurd (nothing_at key here.book here.stands);
}

module _ {T U : Type 0} (config : ServiceConfig) (v c v' c' : ℕ) where
  -- the fields with these empty slabs
  abbrev empty_fields : Fields T U
  empty_fields = fresh_fields config (empty_slab v c) (empty_slab v' c')

  keeps_entries : KeepsEntries (kept_of empty_fields)
  keeps_entries p n (In_history x at is) = absurd cc
  keeps_entries p n (In_mailbox q is) = absurd cc
  keeps_entries p n (In_blocked_send x b at is here) = absurd cc

  linked : IsLinked empty_fields
  linked = record {
    senders = λ i x at. absurd (nothing_at i x at);
    receivers = λ i y at. absurd (nothing_at i y at);
    expired = λ i y at. absurd (nothing_at i y at);
    ends = λ key d at. absurd (nothing_at key d at);
    knows = record { at = λ key i d y at _ _. absurd (nothing_at key d at) };
    receiver_places = λ i place key y d at _ _. absurd (nothing_at i y at);
    knows_publishers = λ key i d x at _ _. absurd (nothing_at key d at);
    sender_rooms = λ key i d x at _ _. absurd (nothing_at key d at);
    receiver_rooms = λ key i d y at _ _. absurd (nothing_at key d at);
    limits = λ key d at. absurd (nothing_at key d at);
    channel_counts = λ key d at. absurd (nothing_at key d at);
    returned = λ key d at. absurd (nothing_at key d at);
    marked = λ key d at is. absurd (nothing_at key d at);
  }

  has_books : HasBooks empty_fields
  has_books = record {
    one_each = λ p. none_only _;
    books = λ key b at. absurd (nothing_at key b at);
    publishers = λ i x at. absurd (nothing_at i x at);
    no_others = λ key at. refl;
  }

  is_domain : IsDomain empty_fields
  is_domain = record {
    parts = record {
      publisher_ids = λ p. none_only _;
      subscriber_ids = λ q. none_only _;
      apart = record { one = λ p q. none_only _ };
      linked = linked;
      expired_room = record { at = λ i y at. absurd (nothing_at i y at) };
      books = has_books;
      names = record { at = λ key c at. absurd (nothing_at key c at) };
      counted = record { at = λ p slot. refl };
      numbered = numbered v' c';
      publisher_room = λ i x at. absurd (nothing_at i x at);
      warning_room = refl;
      shapes = record { at = λ key slot b m at _. absurd (nothing_at key b at) };
      forms = record { at = λ several key cs at. absurd cc; cells = λ several lists key cs at. absurd cc };
      open_loans = record {
        at = λ i slot x at _. absurd (nothing_at i x at);
        lists = λ i x cs at _. absurd (nothing_at i x at);
      };
      plain = λ i x at. absurd (nothing_at i x at);
    };
    kept_books = record { at = λ key b at. absurd (nothing_at key b at) };
    lone = record { at = λ key slot b at _. absurd (nothing_at key b at) };
    well_formed = fresh_is_well_formed config;
    entries = keeps_entries;
  }

  shows : Shows (kept_of empty_fields) no_messages (fresh config)
  shows = record {
    state = refl;
    well_formed = fresh_is_well_formed config;
    entries = λ n entry kept. absurd cc;
    complete = keeps_entries;
    below = λ n le. refl;
    unsent = λ n l at. refl;
  }

-- what holds at empty slabs holds at all whose lists are empty
module _ {A B : Type 0} (P : Slab A → Slab B → Type 0) where
  at_empty : (s : Slab A) (t : Slab B) → s.slots ≡ [] → t.slots ≡ []
      → P (empty_slab s.vacant_key s.capacity) (empty_slab t.vacant_key t.capacity) → P s t
  at_empty s t e f h =
      let with_first : List (Option A) → Type 0 =
      λ xs. P (record { slots = xs; vacant_key = s.vacant_key; capacity = s.capacity })
      (empty_slab t.vacant_key t.capacity) in
      let with_second : List (Option B) → Type 0 =
      λ ys. P s (record { slots = ys; vacant_key = t.vacant_key; capacity = t.capacity }) in
      subst with_second (sym f) (subst with_first (sym e) h)

module _ {T U : Type 0} (config : ServiceConfig) (connections : Slab Link) (books : Slab Book)
    (e : connections.slots ≡ []) (f : books.slots ≡ []) where
  fresh_is_domain : IsDomain {T = T} {U = U} (fresh_fields config connections books)
  fresh_is_domain =
      at_empty (λ s t. IsDomain {T = T} {U = U} (fresh_fields config s t)) connections books e f
      (is_domain config connections.vacant_key connections.capacity books.vacant_key books.capacity)

  fresh_is_shown : Shows {T = T} {U = U} (kept_of (fresh_fields config connections books)) no_messages (fresh config)
  fresh_is_shown =
      at_empty (λ s t. Shows {T = T} {U = U} (kept_of (fresh_fields config s t)) no_messages (fresh config)) connections
      books e f
      (shows config connections.vacant_key connections.capacity books.vacant_key books.capacity)

module _ {T U : Type 0} (config : ServiceConfig) (f : Fields T U) (is : IsFresh config f) where
  fields-are : f ≡ fresh_fields config f.connections f.books
  fields-are = λ i. record {
    config = is.settings i;
    next_port = is.next_port i;
    next_message = is.next_message i;
    warnings = is.warnings i;
    publishers = is.publishers i;
    subscribers = is.subscribers i;
    connections = f.connections;
    books = f.books;
    contents = is.contents i;
  }

  -- a new domain's fields agree
  pub new_is_domain : IsDomain f
  new_is_domain = subst IsDomain (sym fields-are) (fresh_is_domain config f.connections f.books is.connections is.books)

  -- and they show the fresh state
  pub new_is_shown : Shows (kept_of f) no_messages (fresh config)
  new_is_shown = subst (λ (g : Fields T U). Shows (kept_of g) no_messages (fresh config)) (sym fields-are)
      (fresh_is_shown config f.connections f.books is.connections is.books)
