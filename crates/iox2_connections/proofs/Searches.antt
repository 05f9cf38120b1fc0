-- A subscriber's search, seen from the machine.
use Rattle.std.proofs.Common.{◌≡◌, ℕ, zero, suc, ◌+◌, ◌<◌, ◌≤◌, Bool, true, false, cond, not, ◌&&◌, ◌||◌, List, [], ◌∷◌}
use Rattle.std.proofs.Common.{length, map, drop, Option, None, Some, get_or, refl, sym, ap, subst, ◌∙◌, arith, eqb}
use Rattle.std.proofs.Common.{⊎_elim}
use Rattle.std.proofs.lemmas.Bool.{eqb-true, eq-eqb, true≢false, or_cases, or_left, or_right, or_parts}
use Rattle.std.proofs.lemmas.List.{get_or-map, length-map, drop_all, drop_more}
use Rattle.std.proofs.lemmas.List.Folds.{list_any-append}
use Rattle.std.specs.Prelude.{IsTrue, IsSomeAnd, slice_index_or}
use Rattle.std.specs.Bool.{MatchBool}
use Rattle.std.specs.List.{list_any}
use Rattle.std.specs.Option.{ForSome}
use Rattle.slab.specs.Slab.{Slab, get}
use Rattle.iox2_connections.specs.Link.{Link, has_slots, can_borrow}
use Rattle.iox2_machine.specs.machine.Numbers.{is_nil, contains}
use Rattle.iox2_machine.specs.machine.Places.{occupants}
use Rattle.iox2_machine.specs.machine.Mailbox.{Mailbox, has_data, can_receive}
use Rattle.iox2_machine.specs.machine.Records.{Subscriber}
use Rattle.iox2_machine.specs.machine.Receives.{can_receive_of}
use Rattle.iox2_connections.specs.Mailboxes.{mailbox_of, mailboxes_of, receiver_ends}
use Rattle.iox2_connections.specs.Homes.{IsApart}
use Rattle.iox2_connections.specs.Finds.{is_something, offer_of, offer_at, first_found, search, IsReceivers}
use Rattle.iox2_connections.specs.Finds.{IsReceiverLinked, FindsFor, Finds}
use Rattle.iox2_connections.specs.declared.receiver.Found.{Found}
use Rattle.iox2_connections.proofs.MailboxChanges.{mailbox-there}

-- ---- one search after another

-- a message may be taken
abbrev pub is_ready : Found → Bool
is_ready (Found.Ready key) = true
is_ready Found.AtLimit = false
is_ready Found.Nothing = false

-- three searches may be taken together in either way
pub first_found-assoc : (a b c : Found) → first_found (first_found a b) c ≡ first_found a (first_found b c)
first_found-assoc (Found.Ready k) b c = refl
first_found-assoc Found.AtLimit (Found.Ready k) c = refl
first_found-assoc Found.AtLimit Found.AtLimit (Found.Ready k) = refl
first_found-assoc Found.AtLimit Found.AtLimit Found.AtLimit = refl
first_found-assoc Found.AtLimit Found.AtLimit Found.Nothing = refl
first_found-assoc Found.AtLimit Found.Nothing (Found.Ready k) = refl
first_found-assoc Found.AtLimit Found.Nothing Found.AtLimit = refl
first_found-assoc Found.AtLimit Found.Nothing Found.Nothing = refl
first_found-assoc Found.Nothing b c = refl

-- after a connection to take from nothing is looked for
pub first_found-ready : (a b : Found) → is_ready a ≡ true → first_found a b ≡ a
first_found-ready (Found.Ready k) b e = refl
first_found-ready Found.AtLimit b e = absurd (true≢false (sym e))
first_found-ready Found.Nothing b e = absurd (true≢false (sym e))

-- where nothing is left, it stays
pub first_found-nothing : (a : Found) → first_found a Found.Nothing ≡ a
first_found-nothing (Found.Ready k) = refl
first_found-nothing Found.AtLimit = refl
first_found-nothing Found.Nothing = refl

-- what is found first is found
pub something-first : (a b : Found) → is_something a ≡ true → true ≡ is_something (first_found a b)
something-first (Found.Ready key) b e = refl
something-first Found.AtLimit (Found.Ready key) e = refl
something-first Found.AtLimit Found.AtLimit e = refl
something-first Found.AtLimit Found.Nothing e = refl
something-first Found.Nothing b e = absurd cc

-- and else what is found later
pub something-later : (a b : Found) → is_something a ≡ false → is_something b ≡ is_something (first_found a b)
something-later (Found.Ready key) b e = absurd cc
something-later Found.AtLimit b e = absurd cc
something-later Found.Nothing b e = refl

-- the search goes on behind the place i
pub search-more : (connections : Slab Link) (keys : List (Option ℕ)) (i : ℕ) (found all : Found) → i < length keys
    → all ≡ first_found found (search connections (drop i keys))
    → all ≡ first_found (first_found found (offer_at connections (get_or keys i None)))
    (search connections (drop (i + 1) keys))
search-more connections keys i found all below e =
    e ∙ ap (λ (rest : List (Option ℕ)). first_found found (search connections rest)) (drop_more keys i None below)
    ∙ sym (first_found-assoc found (offer_at connections (get_or keys i None)) (search connections (drop (i + 1) keys)))

-- the search goes on behind the place i with what was offered there
pub search-step : (connections : Slab Link) (keys : List (Option ℕ)) (i : ℕ) (key : Option ℕ)
    (found offer next all : Found) → i < length keys → all ≡ first_found found (search connections (drop i keys))
    → get_or keys i None ≡ key → offer ≡ offer_at connections key → next ≡ first_found found offer
    → all ≡ first_found next (search connections (drop (i + 1) keys))
search-step connections keys i key found offer next all below so_far at is joins =
    search-more connections keys i found all below so_far
    ∙ ap (λ (x : Found). first_found (first_found found x) (search connections (drop (i + 1) keys)))
    (ap (offer_at connections) at ∙ sym is)
    ∙ ap (λ (x : Found). first_found x (search connections (drop (i + 1) keys))) (sym joins)

-- a connection to take from is found, where there was none so far
pub joins-ready : (found : Found) (key : ℕ) → is_ready found ≡ false
    → Found.Ready key ≡ first_found found (Found.Ready key)
joins-ready (Found.Ready k) key e = absurd (true≢false e)
joins-ready Found.AtLimit key e = refl
joins-ready Found.Nothing key e = refl

-- a message waits, where there was no connection to take from so far
pub joins-at_limit : (found : Found) → is_ready found ≡ false → Found.AtLimit ≡ first_found found Found.AtLimit
joins-at_limit (Found.Ready k) e = absurd (true≢false e)
joins-at_limit Found.AtLimit e = refl
joins-at_limit Found.Nothing e = refl

-- a search that found a connection to take from is the whole search
pub search-ready : (found a b : Found) → found ≡ a → is_ready found ≡ true → first_found a b ≡ found
search-ready found a b is ready = ap (λ (x : Found). first_found x b) (sym is) ∙ first_found-ready found b ready

-- the key at a place of a list whose elements have keys, where this is the element there and its key
pub listed-at : {A : Type 0} (key_of : A → Option ℕ) (xs : List A) (i : ℕ) (x : A) (key : Option ℕ) → i < length xs
    → x ≡ get_or xs i x → key ≡ key_of x → get_or (map key_of xs) i None ≡ key
listed-at key_of xs i x key below there its = get_or-map key_of xs i x None below ∙ ap key_of (sym there) ∙ sym its

-- the search goes on behind the place i of such a list
pub listed-step : {A : Type 0} (key_of : A → Option ℕ) (connections : Slab Link) (xs : List A) (i : ℕ) (x : A)
    (key : Option ℕ) (found offer next all : Found) → i < length xs
    → all ≡ first_found found (search connections (drop i (map key_of xs))) → x ≡ get_or xs i x → key ≡ key_of x
    → offer ≡ offer_at connections key → next ≡ first_found found offer
    → all ≡ first_found next (search connections (drop (i + 1) (map key_of xs)))
listed-step key_of connections xs i x key found offer next all below so_far there its is joins =
    search-step connections (map key_of xs) i key found offer next all (omega (arith, length-map xs key_of)) so_far
    (listed-at key_of xs i x key below there its) is joins

-- ---- what is found may be taken

-- a message may be taken from the connection that was found
abbrev pub CanTake : Slab Link → Found → Type 0
CanTake connections (Found.Ready key) = IsSomeAnd (get connections key) (λ c. IsTrue (can_borrow c))
CanTake connections Found.AtLimit = Unit {0}
CanTake connections Found.Nothing = Unit {0}

-- what one connection offers may be taken
can_take-offer : (connections : Slab Link) (key : Option ℕ) → CanTake connections (offer_at connections key)
can_take-offer connections None = tt
can_take-offer connections (Some key) = by (get connections key) refl where
  by : (o : Option Link) → get connections key ≡ o → CanTake connections (offer_of key o)
  by None e = tt
  by (Some c) e = at (can_borrow c) (has_slots c) refl where
    at : (a b : Bool) → can_borrow c ≡ a
        → CanTake connections (cond a (Found.Ready key) (cond b Found.AtLimit Found.Nothing))
    at true b h = rw e h
    at false true h = tt
    at false false h = tt

can_take-first : (connections : Slab Link) (a b : Found) → CanTake connections a → CanTake connections b
    → CanTake connections (first_found a b)
can_take-first connections (Found.Ready k) b x y = x
can_take-first connections Found.AtLimit (Found.Ready k) x y = y
can_take-first connections Found.AtLimit Found.AtLimit x y = tt
can_take-first connections Found.AtLimit Found.Nothing x y = tt
can_take-first connections Found.Nothing b x y = y

can_take-search : (connections : Slab Link) (keys : List (Option ℕ)) → CanTake connections (search connections keys)
can_take-search connections [] = tt
can_take-search connections (key ∷ keys) = can_take-first connections (offer_at connections key)
    (search connections keys) (can_take-offer connections key) (can_take-search connections keys)

-- ---- one mailbox

is_nil-map : (number : ℕ → ℕ) (xs : List ℕ) → is_nil (map number xs) ≡ is_nil xs
is_nil-map number [] = refl
is_nil-map number (x ∷ xs) = refl

-- something waits in a mailbox where a slot waits in its connection
has_data-mailbox : (number : ℕ → ℕ) (c : Link) → has_data (mailbox_of number c) ≡ has_slots c
has_data-mailbox number c = ap not (is_nil-map number c.waiting)

-- a message may be received where a slot may be borrowed
can_receive-mailbox : (number : ℕ → ℕ) (limit : ℕ) (c : Link) → c.limit ≡ limit
    → can_receive limit (mailbox_of number c) ≡ can_borrow c
can_receive-mailbox number limit c e = rw (has_data-mailbox number c, length-map c.borrowed number, sym e) refl

-- ---- among publishers

-- a test that passes nowhere fails everywhere that it implies
none-less : (f g : ℕ → Bool) (ps : List ℕ) → ((p : ℕ) → g p ≡ true → f p ≡ true) → list_any f ps ≡ false
    → list_any g ps ≡ false
none-less f g [] less h = refl
none-less f g (p ∷ ps) less h =
    let parts : (f p ≡ false) × (list_any f ps ≡ false) = or_parts (f p) (list_any f ps) h in
    by (g p) refl parts.0 (none-less f g ps less parts.1)
  where
    by : (b : Bool) → g p ≡ b → f p ≡ false → list_any g ps ≡ false → (g p || list_any g ps) ≡ false
    by true e fails rest = absurd (true≢false (sym (less p e) ∙ fails))
    by false e fails rest = rw e rest

-- a test passes in a list in which it passes at some number
pub any-contains : (f : ℕ → Bool) (p : ℕ) (ps : List ℕ) → contains ps p ≡ true → f p ≡ true → list_any f ps ≡ true
any-contains f p [] h passes = absurd (true≢false (sym h))
any-contains f p (x ∷ ps) h passes =
    ⊎_elim (λ e. or_left (f x) (list_any f ps) (ap f (eqb-true x p e) ∙ passes))
    (λ r. or_right (f x) (list_any f ps) (any-contains f p ps r passes)) (or_cases (eqb x p) (contains ps p) h)

-- what a search among these publishers found
abbrev pub FindsAmong : (q limit : ℕ) → Slab Link → (ℕ → Mailbox) → List ℕ → Found → Type 0
FindsAmong q limit connections boxes ps (Found.Ready key) =
    (c : Link) × (get connections key ≡ Some c) × (c.home.subscriber ≡ q)
    × (can_receive limit (boxes c.home.publisher) ≡ true) × (contains ps c.home.publisher ≡ true)
FindsAmong q limit connections boxes ps Found.AtLimit =
    (list_any (λ p. has_data (boxes p)) ps ≡ true) × (list_any (λ p. can_receive limit (boxes p)) ps ≡ false)
FindsAmong q limit connections boxes ps Found.Nothing = list_any (λ p. has_data (boxes p)) ps ≡ false

module _ (q limit : ℕ) (connections : Slab Link) (boxes : ℕ → Mailbox) where
  -- where nothing waits nothing may be received
  none-received : (ps : List ℕ) → list_any (λ p. has_data (boxes p)) ps ≡ false
      → list_any (λ p. can_receive limit (boxes p)) ps ≡ false
  none-received ps h =
      none-less (λ p. has_data (boxes p)) (λ p. can_receive limit (boxes p)) ps (λ p e. first-true _ _ e) h where
        first-true : (a b : Bool) → (a && b) ≡ true → a ≡ true
        first-true true b e = refl
        first-true false b e = e

  -- what is found where something waits at one publisher more, from which nothing may be received
  among-at_limit : (p : ℕ) (ps : List ℕ) (found : Found) → has_data (boxes p) ≡ true
      → can_receive limit (boxes p) ≡ false → FindsAmong q limit connections boxes ps found
      → FindsAmong q limit connections boxes (p ∷ ps) (first_found Found.AtLimit found)
  among-at_limit p ps (Found.Ready key) waits full h =
      (h.0, h.1, h.2, h.3, or_right (eqb p h.0.home.publisher) (contains ps h.0.home.publisher) h.4)
  among-at_limit p ps Found.AtLimit waits full h =
      (or_left (has_data (boxes p)) (list_any (λ r. has_data (boxes r)) ps) waits, rw full h.1)
  among-at_limit p ps Found.Nothing waits full h =
      (or_left (has_data (boxes p)) (list_any (λ r. has_data (boxes r)) ps) waits, rw full (none-received ps h))

  -- what is found where nothing waits at one publisher more
  among-nothing : (p : ℕ) (ps : List ℕ) (found : Found) → has_data (boxes p) ≡ false
      → can_receive limit (boxes p) ≡ false → FindsAmong q limit connections boxes ps found
      → FindsAmong q limit connections boxes (p ∷ ps) found
  among-nothing p ps (Found.Ready key) none full h =
      (h.0, h.1, h.2, h.3, or_right (eqb p h.0.home.publisher) (contains ps h.0.home.publisher) h.4)
  among-nothing p ps Found.AtLimit none full h =
      (or_right (has_data (boxes p)) (list_any (λ r. has_data (boxes r)) ps) h.0, rw full h.1)
  among-nothing p ps Found.Nothing none full h = rw none h

-- the next keys belong to the subscriber, too
linked-later : (q most : ℕ) (connections : Slab Link) (key : Option ℕ) (keys : List (Option ℕ))
    → IsReceiverLinked q most connections (key ∷ keys) → IsReceiverLinked q most connections keys
linked-later q most connections key keys l = record { at = λ i k e. l.at (suc i) k e }

-- a search through keys is a search among the publishers to which they lead
pub among-search : (q limit : ℕ) (connections : Slab Link) (number : ℕ → ℕ → ℕ) → IsApart connections
    → (keys : List (Option ℕ)) → IsReceiverLinked q limit connections keys
    → FindsAmong q limit connections (λ p. mailboxes_of number connections p q)
    (occupants (receiver_ends connections keys)) (search connections keys)
among-search q limit connections number apart [] l = refl
among-search q limit connections number apart (None ∷ keys) l =
    among-search q limit connections number apart keys (linked-later q limit connections None keys l)
among-search q limit connections number apart (Some key ∷ keys) l =
    by (get connections key) refl (l.at zero key refl)
    (among-search q limit connections number apart keys (linked-later q limit connections (Some key) keys l))
  where
    at : (c : Link) → get connections key ≡ Some c → c.home.subscriber ≡ q → (a b : Bool) → can_borrow c ≡ a
        → has_slots c ≡ b
        → can_receive limit (mailboxes_of number connections c.home.publisher q) ≡ can_borrow c
        → has_data (mailboxes_of number connections c.home.publisher q) ≡ has_slots c
        → FindsAmong q limit connections (λ p. mailboxes_of number connections p q)
        (occupants (receiver_ends connections keys)) (search connections keys)
        → FindsAmong q limit connections (λ p. mailboxes_of number connections p q)
        (c.home.publisher ∷ occupants (receiver_ends connections keys))
        (first_found (cond a (Found.Ready key) (cond b Found.AtLimit Found.Nothing)) (search connections keys))
    at c e mine true b can has receive waits rest = (
      c,
      e,
      mine,
      receive ∙ can,
      or_left (eqb c.home.publisher c.home.publisher)
          (contains (occupants (receiver_ends connections keys)) c.home.publisher)
          (eq-eqb c.home.publisher c.home.publisher refl),
    )
    at c e mine false true can has receive waits rest =
        among-at_limit q limit connections (λ p. mailboxes_of number connections p q) c.home.publisher
        (occupants (receiver_ends connections keys)) (search connections keys) (waits ∙ has) (receive ∙ can) rest
    at c e mine false false can has receive waits rest =
        among-nothing q limit connections (λ p. mailboxes_of number connections p q) c.home.publisher
        (occupants (receiver_ends connections keys)) (search connections keys) (waits ∙ has) (receive ∙ can) rest

    by : (o : Option Link) → get connections key ≡ o → IsSomeAnd o (IsReceivers q limit)
        → FindsAmong q limit connections (λ p. mailboxes_of number connections p q)
        (occupants (receiver_ends connections keys)) (search connections keys)
        → FindsAmong q limit connections (λ p. mailboxes_of number connections p q)
        (occupants (receiver_ends connections (Some key ∷ keys))) (search connections (Some key ∷ keys))
    by None e h rest = absurd h
    by (Some c) e h rest =
        let there : mailboxes_of number connections c.home.publisher q ≡ mailbox_of (number c.home.publisher) c =
        mailbox-there number connections key c.home.publisher q c apart e refl h.subscriber in
        rw e (at c e h.subscriber (can_borrow c) (has_slots c) refl refl
        (ap (can_receive limit) there ∙ can_receive-mailbox (number c.home.publisher) limit c h.limit)
        (ap has_data there ∙ has_data-mailbox (number c.home.publisher) c) rest)

-- ---- the whole search

module _ (q limit : ℕ) (connections : Slab Link) (y : Subscriber) (boxes : ℕ → Mailbox) where
  -- a message may be received from a publisher that was found among these
  receive-from : (key : ℕ) (c : Link) → get connections key ≡ Some c → c.home.subscriber ≡ q
      → can_receive limit (boxes c.home.publisher) ≡ true
      → (b : Bool) → can_receive_of limit y boxes y.expired ≡ b → MatchBool b
      (IsTrue (contains y.expired c.home.publisher)) (IsTrue (contains (occupants y.ends) c.home.publisher))
      → FindsFor q limit connections y boxes (Found.Ready key)
  receive-from key c e mine can b which h = rw e (mine, (can, rw which h))

  -- both searches, one after the other
  pub finds-both : (a b : Found) → FindsAmong q limit connections boxes y.expired a
      → FindsAmong q limit connections boxes (occupants y.ends) b
      → FindsFor q limit connections y boxes (first_found a b)
  finds-both (Found.Ready key) b f g =
      receive-from key f.0 f.1 f.2 f.3 true
      (any-contains (λ p. can_receive limit (boxes p)) f.0.home.publisher y.expired f.4 f.3) f.4
  finds-both Found.AtLimit (Found.Ready key) f g = receive-from key g.0 g.1 g.2 g.3 false f.1 g.4
  finds-both Found.AtLimit Found.AtLimit f g = (
    list_any-append (λ p. has_data (boxes p)) y.expired (occupants y.ends) ∙ or_left
        (list_any (λ p. has_data (boxes p)) y.expired) (list_any (λ p. has_data (boxes p)) (occupants y.ends)) f.0,
    list_any-append (λ p. can_receive limit (boxes p)) y.expired (occupants y.ends) ∙ rw f.1 g.1,
  )
  finds-both Found.AtLimit Found.Nothing f g = (
    list_any-append (λ p. has_data (boxes p)) y.expired (occupants y.ends) ∙ or_left
        (list_any (λ p. has_data (boxes p)) y.expired) (list_any (λ p. has_data (boxes p)) (occupants y.ends)) f.0,
    list_any-append (λ p. can_receive limit (boxes p)) y.expired (occupants y.ends)
        ∙ rw f.1 (none-received q limit connections boxes (occupants y.ends) g),
  )
  finds-both Found.Nothing (Found.Ready key) f g =
      receive-from key g.0 g.1 g.2 g.3 false (none-received q limit connections boxes y.expired f) g.4
  finds-both Found.Nothing Found.AtLimit f g = (
    list_any-append (λ p. has_data (boxes p)) y.expired (occupants y.ends) ∙ or_right
        (list_any (λ p. has_data (boxes p)) y.expired) (list_any (λ p. has_data (boxes p)) (occupants y.ends)) g.0,
    list_any-append (λ p. can_receive limit (boxes p)) y.expired (occupants y.ends)
        ∙ rw (none-received q limit connections boxes y.expired f) g.1,
  )
  finds-both Found.Nothing Found.Nothing f g =
      list_any-append (λ p. has_data (boxes p)) y.expired (occupants y.ends) ∙ rw f g

-- what the code finds is what the machine does
pub finds-found : (connections : Slab Link) (expired : List ℕ) (keys : List (Option ℕ))
    → Finds connections expired keys (first_found (search connections (map Some expired)) (search connections keys))
finds-found connections expired keys = record {
  finds = λ q limit y r number.
      finds-both q limit connections y (λ p. mailboxes_of number connections p q)
      (search connections (map Some expired)) (search connections keys)
      (rw r.expired (among-search q limit connections number r.apart (map Some expired) r.kept))
      (rw r.ends (among-search q limit connections number r.apart keys r.linked));
}

-- ---- one place that is looked at before the others

-- no connection to take from was found
not-ready : (found : Found) → ((k : ℕ) → found ≡ Found.Ready k → ⊥) → is_ready found ≡ false
not-ready (Found.Ready k) none = absurd (none k refl)
not-ready Found.AtLimit none = refl
not-ready Found.Nothing none = refl

-- where there is no key, there is no connection to take from
nothing-ready : (key : ℕ) → Found.Nothing ≡ Found.Ready key → ⊥
nothing-ready key e = true≢false (ap is_ready (sym e))

-- what one of the keys offers is found among the publishers to which they lead
pub among-offer : (q limit : ℕ) (connections : Slab Link) (number : ℕ → ℕ → ℕ) → IsApart connections
    → (keys : List (Option ℕ)) → IsReceiverLinked q limit connections keys
    → (i key ready : ℕ) → slice_index_or keys i None ≡ Some key → offer_at connections (Some key) ≡ Found.Ready ready
    → FindsAmong q limit connections (λ p. mailboxes_of number connections p q)
    (occupants (receiver_ends connections keys)) (Found.Ready ready)
among-offer q limit connections number apart [] l i key ready at is = absurd cc
among-offer q limit connections number apart (None ∷ keys) l zero key ready at is = absurd cc
among-offer q limit connections number apart (None ∷ keys) l (suc i) key ready at is =
    among-offer q limit connections number apart keys (linked-later q limit connections None keys l) i key ready at is
among-offer q limit connections number apart (Some first ∷ keys) l zero key ready at is =
    subst (FindsAmong q limit connections (λ p. mailboxes_of number connections p q)
    (occupants (receiver_ends connections (Some first ∷ keys))))
    (ap (λ (o : Found). first_found o (search connections keys)) (ap (offer_at connections) at ∙ is))
    (among-search q limit connections number apart (Some first ∷ keys) l)
among-offer q limit connections number apart (Some first ∷ keys) l (suc i) key ready at is =
    by (get connections first) refl (l.at zero first refl)
    (among-offer q limit connections number apart keys
    (linked-later q limit connections (Some first) keys l) i key ready at is)
  where
    by : (o : Option Link) → get connections first ≡ o → IsSomeAnd o (IsReceivers q limit)
        → FindsAmong q limit connections (λ p. mailboxes_of number connections p q)
        (occupants (receiver_ends connections keys)) (Found.Ready ready)
        → FindsAmong q limit connections (λ p. mailboxes_of number connections p q)
        (occupants (receiver_ends connections (Some first ∷ keys))) (Found.Ready ready)
    by None e h rest = absurd h
    by (Some c) e h rest =
        rw e (
          rest.0,
          rest.1,
          rest.2,
          rest.3,
          or_right (eqb c.home.publisher rest.0.home.publisher)
              (contains (occupants (receiver_ends connections keys)) rest.0.home.publisher) rest.4,
        )

-- ---- the search in the code

module _ (connections : Slab Link) (expired : List ℕ) (keys : List (Option ℕ)) where
  -- all that is searched
  abbrev pub whole_search : Found
  whole_search = first_found (search connections (map Some expired)) (search connections keys)

  -- a message may be taken from the connection that was found among the expired ones
  pub expired-ready : (found : Found) (key : ℕ) → found ≡ search connections (map Some expired)
      → found ≡ Found.Ready key
      → CanTake connections (Found.Ready key) × Finds connections expired keys (Found.Ready key)
  expired-ready found key is ready = (
    subst (CanTake connections) (sym is ∙ ready) (can_take-search connections (map Some expired)),
    subst (Finds connections expired keys) (search-ready found _ (search connections keys) is (ap is_ready ready)
        ∙ ready) (finds-found connections expired keys),
  )

  -- or at one place, before the others are looked at
  pub offer-ready : (found offer : Found) (first : Option ℕ) (key : ℕ) → found ≡ search connections (map Some expired)
      → ((k : ℕ) → found ≡ Found.Ready k → ⊥)
      → ForSome first (λ k. (place : ℕ) × (slice_index_or keys place None ≡ Some k))
      → offer ≡ offer_at connections first → offer ≡ Found.Ready key → Finds connections expired keys (Found.Ready key)
  offer-ready found offer None key searched none stands is ready = absurd (nothing-ready key (sym is ∙ ready))
  offer-ready found offer (Some first) key searched none stands is ready = record {
    finds = λ q limit y r number.
        subst (FindsFor q limit connections y (λ p. mailboxes_of number connections p q))
        (ap (λ (a : Found). first_found a (Found.Ready key)) (sym searched)
        ∙ sym (joins-ready found key (not-ready found none)))
        (finds-both q limit connections y (λ p. mailboxes_of number connections p q)
        (search connections (map Some expired)) (Found.Ready key)
        (rw r.expired (among-search q limit connections number r.apart (map Some expired) r.kept))
        (rw r.ends (among-offer q limit connections number r.apart keys r.linked (stands first refl).0 first key
        (stands first refl).1 (sym is ∙ ready))));
  }

  -- or at a place, where none was found before
  pub place-ready : (found offer : Found) (place key : ℕ) → place < length keys → is_ready found ≡ false
      → whole_search ≡ first_found found (search connections (drop place keys))
      → offer ≡ offer_at connections (get_or keys place None) → offer ≡ Found.Ready key
      → CanTake connections (Found.Ready key) × Finds connections expired keys (Found.Ready key)
  place-ready found offer place key below none whole is ready = (
    subst (CanTake connections) (sym is ∙ ready) (can_take-offer connections (get_or keys place None)),
    subst (Finds connections expired keys)
        (search-step connections keys place _ found offer (Found.Ready key) whole_search below whole refl is
        (joins-ready found key none ∙ ap (first_found found) (sym ready))) (finds-found connections expired keys),
  )

  -- what was found when all places were looked at
  pub search-ended : (found : Found) (place : ℕ) → length keys ≤ place
      → whole_search ≡ first_found found (search connections (drop place keys)) → Finds connections expired keys found
  search-ended found place past whole =
      subst (Finds connections expired keys)
      (whole ∙ ap (λ (rest : List (Option ℕ)). first_found found (search connections rest)) (drop_all place keys past)
      ∙ first_found-nothing found)
      (finds-found connections expired keys)

-- what is found where there is no connection to take from, and no limit
pub found-nothing : (found : Found) → is_ready found ≡ false → (found ≡ Found.AtLimit → ⊥) → found ≡ Found.Nothing
found-nothing (Found.Ready key) none other = absurd (true≢false none)
found-nothing Found.AtLimit none other = absurd (other refl)
found-nothing Found.Nothing none other = refl
