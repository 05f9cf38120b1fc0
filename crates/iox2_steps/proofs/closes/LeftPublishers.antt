-- The publishers after one of them left, as the machine has them.
use Rattle.std.proofs.Common.{◌≡◌, ◌≢◌, ℕ, zero, suc, Bool, true, false, cond, eqb, List, [], ◌∷◌, map, get_or, refl}
use Rattle.std.proofs.Common.{ap, sym, ◌∙◌, arith}
use Rattle.std.proofs.lemmas.Bool.{eq-eqb, ne_eqb}
use Rattle.std.proofs.lemmas.List.{get_or-set_other}
use Rattle.std.specs.Prelude.{slice_set}
use Rattle.std.specs.declared.option.Option.{Option}
use Rattle.std.specs.declared.option.Option.TheVariants.{None, Some}
use Rattle.std.specs.Option.{option_map}
use Rattle.slab.specs.Slab.{Slab, get}
use Rattle.iox2_connections.specs.Link.{Link}
use Rattle.iox2_machine.specs.machine.Numbers.{put_at}
use Rattle.iox2_machine.specs.machine.Places.{vacated}
use Rattle.iox2_machine.specs.machine.Records.{Publisher}
use Rattle.iox2_connections.specs.LookUp.{look_up}
use Rattle.iox2_connections.specs.Homes.{IsSenders}
use Rattle.iox2_connections.specs.Mailboxes.{sender_ends, subscriber_of_key}
use Rattle.iox2_connections.proofs.LookUps.{look_up-there}
use Rattle.iox2_domain.specs.Ports.{PublisherFields}
use Rattle.iox2_domain.specs.Kept.{Named, state_of, port_named, ids, is_named}
use Rattle.iox2_domain.specs.Fields.{Fields, kept_of, publisher_of, number_in_slot, blocked_send}
use Rattle.iox2_domain.specs.Invariant.{is_publisher, IsDomain}
use Rattle.iox2_domain.proofs.lemmas.containers.ChangedRecords.{ends-agree}
use Rattle.iox2_domain.proofs.lemmas.containers.LookUps.{look_up-map, look_up-removed, IsOnly-removed}
use Rattle.iox2_domain.proofs.lemmas.fields.Standing.{some_is, one-publisher}
use Rattle.iox2_domain.specs.Closes.{LeavesConnections}
use Rattle.iox2_steps.proofs.closes.LeftConnections.{left-others}
use Rattle.iox2_steps.proofs.closes.LeftKeys.{set-none}
use mathlib.Core.Path.{fun_ext}

-- ---- places

-- the ids at places
abbrev numbered : List (Option PublisherFields) → List (Option ℕ)
numbered ps = map (option_map (λ (y : PublisherFields). y.id)) ps

-- where nobody has the id, no place is vacated
vacated-none : (p : ℕ) (ps : List (Option PublisherFields))
    → ((k : ℕ) (y : PublisherFields) → get_or ps k None ≡ Some y → eqb y.id p ≡ false)
    → numbered ps ≡ vacated p (numbered ps)
vacated-none p [] none = refl
vacated-none p (None ∷ ps) none =
    ap (λ (os : List (Option ℕ)). None ∷ os) (vacated-none p ps (λ k y at. none (suc k) y at))
vacated-none p (Some y ∷ ps) none =
    let no : eqb y.id p ≡ false = none zero y refl in
    ap (λ (os : List (Option ℕ)). Some y.id ∷ os) (vacated-none p ps (λ k z at. none (suc k) z at))
    ∙ ap (λ (t : Bool). cond t None (Some y.id) ∷ vacated p (numbered ps)) (sym no)

-- the place of the only one with the id is vacated
pub vacated-one : (p : ℕ) (ps : List (Option PublisherFields)) (i : ℕ) (x : PublisherFields) → get_or ps i None ≡ Some x
    → eqb x.id p ≡ true
    → ((k : ℕ) (y : PublisherFields) → get_or ps k None ≡ Some y → k ≢ i → eqb y.id p ≡ false)
    → numbered (slice_set ps i None) ≡ vacated p (numbered ps)
vacated-one p [] i x at is others = refl
vacated-one p (None ∷ ps) zero x at is others = absurd cc
vacated-one p (Some y ∷ ps) zero x at is others =
    let same : Some y ≡ Some x = at in
    let one : y ≡ x = cc in
    let its : eqb y.id p ≡ true = ap (λ (z : PublisherFields). eqb z.id p) one ∙ is in
    ap (λ (os : List (Option ℕ)). None ∷ os) (vacated-none p ps (λ k z here. others (suc k) z here (λ e. absurd cc)))
    ∙ ap (λ (t : Bool). cond t None (Some y.id) ∷ vacated p (numbered ps)) (sym its)
vacated-one p (None ∷ ps) (suc i) x at is others = ap (λ (os : List (Option ℕ)). None ∷ os)
    (vacated-one p ps i x at is (λ k z here away. others (suc k) z here (λ e. away cc)))
vacated-one p (Some y ∷ ps) (suc i) x at is others =
    let no : eqb y.id p ≡ false = others zero y refl (λ e. absurd cc) in
    ap (λ (os : List (Option ℕ)). Some y.id ∷ os)
    (vacated-one p ps i x at is (λ k z here away. others (suc k) z here (λ e. away cc)))
    ∙ ap (λ (t : Bool). cond t None (Some y.id) ∷ vacated p (numbered ps)) (sym no)

-- ---- the machine's publishers

module _ {T U : Type 0} (f : Fields T U) (sound : IsDomain f) (i : ℕ) (x : PublisherFields)
    (here : get_or f.publishers i None ≡ Some x)
    (new : Slab Link) (left : LeavesConnections x.id f.subscribers f.connections new) where
  -- another publisher is to the machine as it was
  pub publisher-same : (k : ℕ) (y : PublisherFields) → get_or f.publishers k None ≡ Some y → y.id ≢ x.id
      → publisher_of f.books new y ≡ publisher_of f.books f.connections y
  publisher-same k y at_y away = λ t. record (publisher_of f.books f.connections y) {
    port = record (publisher_of f.books f.connections y).port { ends = ends t; blocked = blocked t };
  } where
    ends : sender_ends new y.keys ≡ sender_ends f.connections y.keys
    ends = ends-agree (subscriber_of_key new) (subscriber_of_key f.connections) refl y.keys (λ place key at_key.
        let own = some_is (IsSenders y.id place) (get f.connections key)
        ((sound.parts.linked.senders k y at_y).at place key at_key) in
        ap (option_map (λ (c : Link). c.home.subscriber))
        (left-others x.id f.subscribers f.connections new left key own.0 own.1
        (λ same. away (sym own.2.publisher ∙ same)) ∙ sym own.1))

    blocked : option_map (blocked_send (number_in_slot f.books y.id) (sender_ends new y.keys)) y.blocked ≡ option_map
        (blocked_send (number_in_slot f.books y.id) (sender_ends f.connections y.keys)) y.blocked
    blocked = ap (λ (os : List (Option ℕ)). option_map (blocked_send (number_in_slot f.books y.id) os) y.blocked) ends

  abbrev port : Option (Named Publisher) → Option Publisher
  port o = option_map (λ (z : Named Publisher). z.port) o

  -- it is gone from them
  pub publishers-left : (λ p. port_named p (map (option_map (publisher_of f.books new))
      (slice_set f.publishers i None))) ≡ put_at (state_of (kept_of f)).publishers x.id None
  publishers-left = fun_ext (λ p.
      ap port (look_up-map (is_named p) (publisher_of f.books new) (slice_set f.publishers i None))
      ∙ ap (λ (o : Option PublisherFields). port (option_map (publisher_of f.books new) o)) (removed p)
      ∙ by p (eqb x.id p) (eqb p x.id) (symmetric x.id p) refl)
    where
      symmetric : (a b : ℕ) → eqb a b ≡ eqb b a
      symmetric a b = grind arith

      others : (k : ℕ) → k ≢ i → get_or (slice_set f.publishers i None) k None ≡ get_or f.publishers k None
      others k away = get_or-set_other f.publishers i k None None away

      removed : (p : ℕ) → look_up (is_publisher p) (slice_set f.publishers i None) ≡ cond (eqb x.id p) None
          (look_up (is_publisher p) f.publishers)
      removed p = look_up-removed (is_publisher p) f.publishers (slice_set f.publishers i None) i x
          (sound.parts.publisher_ids p)
          (IsOnly-removed (is_publisher p) f.publishers (slice_set f.publishers i None) i (sound.parts.publisher_ids p)
          (set-none f.publishers i) others) here (set-none f.publishers i) others

      seen : (p : ℕ) → eqb x.id p ≡ false → (o : Option PublisherFields) → look_up (is_publisher p) f.publishers ≡ o
          → port (option_map (publisher_of f.books new) o) ≡ port (option_map (publisher_of f.books f.connections) o)
      seen p fails None e = refl
      seen p fails (Some y) e =
          let there = look_up-there (is_publisher p) f.publishers y e in
          ap (λ (z : Named Publisher). Some z.port) (publisher-same there.0 y there.1 (λ same.
          let yes : eqb x.id p ≡ true = ap (λ (n : ℕ). eqb n p) (sym same) ∙ there.2 in
          let clash : true ≡ false = sym yes ∙ fails in absurd cc))

      by : (p : ℕ) (a b : Bool) → a ≡ b → eqb x.id p ≡ a
          → port (option_map (publisher_of f.books new) (cond a None (look_up (is_publisher p) f.publishers)))
          ≡ cond b None ((state_of (kept_of f)).publishers p)
      by p true b same e = ap (λ (t : Bool). cond t None ((state_of (kept_of f)).publishers p)) same
      by p false b same e =
          seen p e (look_up (is_publisher p) f.publishers) refl
          ∙ ap port (sym (look_up-map (is_named p) (publisher_of f.books f.connections) f.publishers))
          ∙ ap (λ (t : Bool). cond t None ((state_of (kept_of f)).publishers p)) same

  ids-are : (connections : Slab Link) (zs : List (Option PublisherFields))
      → ids (map (option_map (publisher_of f.books connections)) zs) ≡ numbered zs
  ids-are connections [] = refl
  ids-are connections (None ∷ zs) = ap (λ (ns : List (Option ℕ)). None ∷ ns) (ids-are connections zs)
  ids-are connections (Some z ∷ zs) = ap (λ (ns : List (Option ℕ)). Some z.id ∷ ns) (ids-are connections zs)

  -- its place is free
  pub places-left : ids (map (option_map (publisher_of f.books new)) (slice_set f.publishers i None)) ≡ vacated x.id
      (state_of (kept_of f)).publisher_places
  places-left =
      ids-are new (slice_set f.publishers i None)
      ∙ vacated-one x.id f.publishers i x here (eq-eqb x.id x.id refl)
      (λ k y at_y away. ne_eqb y.id x.id (λ same. away (one-publisher f sound.parts k i y x at_y here same)))
      ∙ ap (vacated x.id) (sym (ids-are f.connections f.publishers))
