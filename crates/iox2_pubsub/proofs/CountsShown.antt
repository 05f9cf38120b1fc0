-- Who took a message that was delivered, and how many its send counts, seen from outside.
use Rattle.std.proofs.Common.{◌≡◌, ℕ, suc, ◌+◌, ◌≤◌, Bool, true, false, cond, ◌||◌, List, [], ◌∷◌, ◌++◌, drop, length}
use Rattle.std.proofs.Common.{refl, sym, ap, subst, ◌∙◌, arith, inl, inr, ⊎_elim, Option, Result, Ok, Err}
use Rattle.std.specs.Prelude.{IfOk}
use Rattle.std.specs.Bool.{MatchBool}
use Rattle.std.specs.List.{filter}
use Rattle.std.specs.Option.{option_map_or}
use Rattle.std.proofs.lemmas.Bool.{true≢false}
use Rattle.std.proofs.lemmas.List.{length-append, length-map}
use Rattle.iox2_machine.specs.machine.Mailbox.{Mailbox, has_room}
use Rattle.iox2_machine.specs.machine.Numbers.{contains}
use Rattle.iox2_machine.specs.machine.Records.{Environment, Loan, Subscriber}
use Rattle.iox2_machine.specs.machine.State.{State, Messages, is_blocked}
use Rattle.iox2_machine.specs.machine.Waiting.{waiting_from}
use Rattle.iox2_machine.specs.declared.errors.SendError.{SendError}
use Rattle.iox2_laws.proofs.NumberLemmas.{contains_in_cons}
use Rattle.iox2_domain.specs.Kept.{Kept, entries_of, state_of}
use Rattle.iox2_domain.specs.Shows.{Shows}
use Rattle.iox2_pubsub.specs.AllSubscribers.{AreConnected, AreDifferent}
use Rattle.iox2_pubsub.specs.ConnectedPorts.{Connects}
use Rattle.iox2_pubsub.specs.Counts.{Counts, HasMissed, HasTaken, HaveTaken}
use Rattle.iox2_pubsub.specs.Live.{IsConnected, IsServed, payloads_from}
use Rattle.iox2_pubsub.specs.Payloads.{payload_of}
use Rattle.iox2_pubsub.specs.SendCalls.{IsDelivered, Sends, messages_after_send}
use Rattle.iox2_pubsub.specs.declared.send_outcome.SendOutcome.{SendOutcome}
use Rattle.iox2_pubsub.specs.declared.send_outcome.SendOutcome.TheVariants.{Blocked, Delivered}
use Rattle.iox2_pubsub.specs.declared.subscriber.Subscriber.{Subscriber as Handle}
use Rattle.iox2_pubsub.proofs.FullDomains.{ids-once, ids_of, no-other}
use Rattle.iox2_pubsub.proofs.PendingDeliveries.{served_box}
use Rattle.iox2_pubsub.proofs.SendCounts.{CountsOf, send-counts, takes_next}
use Rattle.iox2_pubsub.proofs.SendsServe.{connected-waits, send-connections, send-serves}
use Rattle.iox2_pubsub.proofs.UpToDateShown.{connected-in}
use Rattle.iox2_pubsub.proofs.WaitingShown.{payloads-from-are}

-- ---- how long a mailbox is then

box-grows : (box : Mailbox) (n buffer : ℕ) (overflow : Bool) (after : Mailbox)
    → after ≡ served_box overflow buffer n box → has_room 0 buffer box ≡ true
    → length after.waiting ≡ suc (length box.waiting)
box-grows box n buffer overflow after is room =
    let now : after.waiting ≡ box.waiting ++ n ∷ [] =
    ap (λ (b : Mailbox). b.waiting) is
    ∙ ap (λ (b : Bool). (cond (b || overflow)
    (record box { waiting = cond b box.waiting (drop 1 box.waiting) ++ n ∷ [] }) box).waiting) room in
    let longer : length (box.waiting ++ n ∷ []) ≡ length box.waiting + 1 = length-append box.waiting (n ∷ []) in
    let same : length after.waiting ≡ length (box.waiting ++ n ∷ []) = ap length now in
    omega (arith, longer, same)

box-stays : (box : Mailbox) (n buffer : ℕ) (overflow : Bool) (after : Mailbox)
    → after ≡ served_box overflow buffer n box → overflow ≡ false → has_room 0 buffer box ≡ false
    → length after.waiting ≡ length box.waiting
box-stays box n buffer true after is none full = absurd (true≢false none)
box-stays box n buffer false after is none full =
    ap length (ap (λ (b : Mailbox). b.waiting) is
    ∙ ap (λ (b : Bool). (cond (b || false)
    (record box { waiting = cond b box.waiting (drop 1 box.waiting) ++ n ∷ [] }) box).waiting) full)

-- ---- one subscriber

module _ {T U F G : Type 0} (old new : Kept T U F G) (p : ℕ) (values : List T) (subscriber : Handle) where
  -- The subscriber took the message, or this went past it.
  abbrev pub IsDecided : (took : Bool) → Type 0
  IsDecided true = HasTaken old new p values subscriber
  IsDecided false = HasMissed old new p values subscriber

  decided : (overflow : Bool) → (old.config).enable_safe_overflow ≡ overflow → (room : Bool)
      → (room ≡ true → length (payloads_from new p subscriber) ≡ suc (length (payloads_from old p subscriber)))
      → (overflow ≡ false → room ≡ false
      → length (payloads_from new p subscriber) ≡ length (payloads_from old p subscriber))
      → IsServed old new p subscriber values → IsDecided (room || overflow)
  unfolding IsServed HasTaken HasMissed
  decided true over true grows stays served =
      ⊎_elim (λ came. inl came)
      (λ full. inr (
        over,
        full.0,
        subst (λ (b : Bool). MatchBool b
            (payloads_from new p subscriber ≡ drop 1 (payloads_from old p subscriber) ++ values ∷ [])
            (payloads_from new p subscriber ≡ payloads_from old p subscriber)) over full.1,
        full.2,
      ))
      served
  decided true over false grows stays served =
      ⊎_elim (λ came. inl came)
      (λ full. inr (
        over,
        full.0,
        subst (λ (b : Bool). MatchBool b
            (payloads_from new p subscriber ≡ drop 1 (payloads_from old p subscriber) ++ values ∷ [])
            (payloads_from new p subscriber ≡ payloads_from old p subscriber)) over full.1,
        full.2,
      ))
      served
  decided false over true grows stays served =
      ⊎_elim (λ came. inl came)
      (λ full.
      let same : payloads_from new p subscriber ≡ payloads_from old p subscriber = subst (λ (b : Bool). MatchBool b
      (payloads_from new p subscriber ≡ drop 1 (payloads_from old p subscriber) ++ values ∷ [])
      (payloads_from new p subscriber ≡ payloads_from old p subscriber)) over full.1 in
      let still : length (payloads_from new p subscriber) ≡ length (payloads_from old p subscriber) = ap length same in
      let more : length (payloads_from new p subscriber) ≡ suc (length (payloads_from old p subscriber)) = grows refl in
      absurd (omega (arith, still, more)))
      served
  decided false over false grows stays served =
      ⊎_elim
      (λ came.
      let longer : length (payloads_from old p subscriber ++ values ∷ []) ≡ length
      (payloads_from old p subscriber) + 1 = length-append (payloads_from old p subscriber) (values ∷ []) in
      let now : length (payloads_from new p subscriber) ≡ length (payloads_from old p subscriber ++ values ∷ []) =
      ap length came.0 in
      let still : length (payloads_from new p subscriber) ≡ length (payloads_from old p subscriber) = stays refl refl in
      absurd (omega (arith, longer, now, still)))
      (λ full. (
        λ overflows. true≢false (sym overflows ∙ over),
        full.0,
        subst (λ (b : Bool). MatchBool b
            (payloads_from new p subscriber ≡ drop 1 (payloads_from old p subscriber) ++ values ∷ [])
            (payloads_from new p subscriber ≡ payloads_from old p subscriber)) over full.1,
        full.2,
      ))
      served

-- as many payloads as lie there
pub lies : {T U F G : Type 0} (kept : Kept T U F G) (m : Messages T U) (s : State T U) → Shows kept m s
    → (p : ℕ) (subscriber : Handle) → Connects s p subscriber.id
    → length (payloads_from kept p subscriber) ≡ length (s.mailboxes p subscriber.id).waiting
lies {T} {U} kept m s shown p subscriber c =
    ap length (payloads-from-are kept p subscriber)
    ∙ length-map (waiting_from (state_of kept) p subscriber.id) (payload_of (entries_of kept))
    ∙ ap (λ (t : State T U). length (waiting_from t p subscriber.id)) (sym shown.state)
    ∙ ap length (connected-waits s p subscriber.id c)

module _ {T U F G : Type 0} (old new : Kept T U F G) (m m' : Messages T U) (s s' : State T U) (shown : Shows old m s)
    (shown' : Shows new m' s') (p : ℕ) (values : List T) where
  pub decided-shown : (n : ℕ) (subscriber : Handle) (c : Connects s p subscriber.id) → Connects s' p subscriber.id
      → s'.mailboxes p subscriber.id ≡ served_box (s.config).enable_safe_overflow (c.subscriber).buffer n
      (s.mailboxes p subscriber.id)
      → IsServed old new p subscriber values → IsDecided old new p values subscriber (takes_next s p subscriber.id)
  decided-shown n subscriber c c' box served =
      let here : length (payloads_from old p subscriber) ≡ length (s.mailboxes p subscriber.id).waiting =
      lies old m s shown p subscriber c in
      let there : length (payloads_from new p subscriber) ≡ length (s'.mailboxes p subscriber.id).waiting =
      lies new m' s' shown' p subscriber c' in
      let buffer : ℕ = (c.subscriber).buffer in
      subst (IsDecided old new p values subscriber)
      (sym
      (ap (λ (o : Option Subscriber). option_map_or (λ (y : Subscriber).
      has_room 0 y.buffer (s.mailboxes p subscriber.id) || (s.config).enable_safe_overflow) o false) c.there))
      (decided old new p values subscriber (s.config).enable_safe_overflow
      (sym (ap (λ (t : State T U). (t.config).enable_safe_overflow) shown.state))
      (has_room 0 (c.subscriber).buffer (s.mailboxes p subscriber.id))
      (λ room.
      let more : length (s'.mailboxes p subscriber.id).waiting ≡ suc (length (s.mailboxes p subscriber.id).waiting) =
      box-grows (s.mailboxes p subscriber.id) n (c.subscriber).buffer (s.config).enable_safe_overflow
      (s'.mailboxes p subscriber.id) box room in
      omega (arith, here, there, more))
      (λ none full.
      let same : length (s'.mailboxes p subscriber.id).waiting ≡ length (s.mailboxes p subscriber.id).waiting =
      box-stays (s.mailboxes p subscriber.id) n (c.subscriber).buffer (s.config).enable_safe_overflow
      (s'.mailboxes p subscriber.id) box none full in
      omega (arith, here, there, same))
      served)

-- ---- several

module _ {T U F G : Type 0} (old new : Kept T U F G) (p : ℕ) (values : List T) (takes : ℕ → Bool)
    (each : (subscriber : Handle) → IsConnected old p subscriber
    → IsDecided old new p values subscriber (takes subscriber.id)) where
  pub have-taken : (subscribers : List Handle) → AreConnected old p subscribers
      → HaveTaken old new p values subscribers (length (filter takes (ids_of subscribers)))
  have-taken [] connected = refl
  have-taken (subscriber ∷ others) connected =
      by (have-taken others connected.1) (takes subscriber.id) (each subscriber connected.0) where
        by : HaveTaken old new p values others (length (filter takes (ids_of others))) → (b : Bool)
            → IsDecided old new p values subscriber b
            → HaveTaken old new p values (subscriber ∷ others)
            (length (cond b (subscriber.id ∷ filter takes (ids_of others)) (filter takes (ids_of others))))
        by later true took = inl (took, length (filter takes (ids_of others)), refl, later)
        by later false missed = inr (missed, later)

-- one alone
pub one-taken : {T U F G : Type 0} (old new : Kept T U F G) (p : ℕ) (values : List T) (subscriber : Handle) (b : Bool)
    → IsDecided old new p values subscriber b
    → HaveTaken old new p values (subscriber ∷ []) (length (cond b (subscriber.id ∷ []) []))
one-taken old new p values subscriber true took = inl (took, 0, refl, refl)
one-taken old new p values subscriber false missed = inr (missed, refl)

-- each of them is connected
connects-each : {T U F G : Type 0} (kept : Kept T U F G) (m : Messages T U) (s : State T U) → Shows kept m s
    → (p : ℕ) (subscribers : List Handle) → AreConnected kept p subscribers
    → (q : ℕ) → contains (ids_of subscribers) q ≡ true → Connects s p q
connects-each kept m s shown p [] connected q at = absurd (true≢false (sym at))
connects-each kept m s shown p (subscriber ∷ others) connected q at =
    ⊎_elim
    (λ same. subst (Connects s p) same (connected-in kept m s shown p subscriber connected.0))
    (λ later. connects-each kept m s shown p others connected.1 q later)
    (contains_in_cons subscriber.id q (ids_of others) at)

module _ {T U F G : Type 0} (old new : Kept T U F G) (m : Messages T U) (s : State T U) (environment : Environment)
    (shown : Shows old m s) (n : ℕ) (l : Loan T U) (p : ℕ) (its : l.publisher ≡ p)
    (free : is_blocked (state_of old) p ≡ false)
    (subscribers : List Handle) (values : List T) (different : AreDifferent subscribers)
    (connected : AreConnected old p subscribers) where
  send-counted : (count : ℕ) (s' : State T U) → Shows new (messages_after_send m n l (Ok (Delivered count))) s'
      → Sends environment s n l (Ok (Delivered count)) s'
      → ((subscriber : Handle) → IsConnected old l.publisher subscriber
      → IsServed old new l.publisher subscriber values) → Counts old new l.publisher values subscribers count
  send-counted count s' shown' h served =
      let open_now : is_blocked s l.publisher ≡ false =
      ap (λ (t : State T U). is_blocked t l.publisher) shown.state ∙ ap (is_blocked (state_of old)) its ∙ free in
      let here : AreConnected old l.publisher subscribers =
      subst (λ (i : ℕ). AreConnected old i subscribers) (sym its) connected in
      let each : (q : ℕ) → contains (ids_of subscribers) q ≡ true → Connects s l.publisher q =
      connects-each old m s shown l.publisher subscribers here in
      let counts : CountsOf s l.publisher (ids_of subscribers) count =
      send-counts environment s n l s' count shown.well_formed open_now h (ids_of subscribers)
      (ids-once subscribers different) (connects-each old m s shown l.publisher subscribers here) in
      record {
        taken = length (filter (takes_next s l.publisher) (ids_of subscribers));
        took = have-taken old new l.publisher values (takes_next s l.publisher) (λ subscriber is.
            let c = connected-in old m s shown l.publisher subscriber is in
            decided-shown old new m
            (messages_after_send m n l (Ok (Delivered count))) s s' shown shown' l.publisher values n subscriber c
            (send-connections environment s n l s' _ shown.well_formed h l.publisher subscriber.id c)
            (send-serves environment s n l s' count shown.well_formed open_now subscriber.id c h)
            (served subscriber is)) subscribers here;
        at_least = counts.at_least;
        exactly = λ full.
            counts.exactly (no-other s shown.well_formed subscribers different
            (subst (λ (t : State T U). (t.config).max_subscribers ≤ length subscribers) (sym shown.state) full)
            (λ q at. let c = connects-each old m s shown l.publisher subscribers here q at in (c.subscriber, c.there)));
      }

  -- what a send counts, by its result
  pub sends-count : (result : Result SendOutcome SendError) (s' : State T U)
      → Shows new (messages_after_send m n l result) s' → Sends environment s n l result s'
      → ((subscriber : Handle) → IsConnected old p subscriber
      → IfOk result (λ outcome. IsDelivered outcome → IsServed old new p subscriber values))
      → IfOk result (λ outcome. (count : ℕ) → outcome ≡ Delivered count → Counts old new p values subscribers count)
  sends-count (Ok (Delivered reached)) s' shown' h served = λ count is.
      let same : reached ≡ count = cc in
      subst (λ (k : ℕ). Counts old new p values subscribers k) same
      (subst (λ (i : ℕ). Counts old new i values subscribers reached) its
      (send-counted reached s' shown' h (λ subscriber at.
      subst (λ (i : ℕ). IsServed old new i subscriber values) (sym its)
      (served subscriber (subst (λ (i : ℕ). IsConnected old i subscriber) its at) tt))))
  sends-count (Ok (Blocked blocked)) s' shown' h served =
      λ count is. absurd (let clash : Blocked blocked ≡ Delivered count = is in cc)
  sends-count (Err error) s' shown' h served = tt
