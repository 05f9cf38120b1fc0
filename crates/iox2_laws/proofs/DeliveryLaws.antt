-- What a delivery does to a publisher's row of mailboxes, and that a state stays well-formed when a message is
-- delivered.
use Rattle.std.proofs.Common.{◌≡◌, ℕ, le_refl, suc, zero, ◌+◌, ◌≤◌, ◌<◌, Bool, true, false, cond, ◌||◌, List, [], ◌∷◌}
use Rattle.std.proofs.Common.{◌++◌, length, take, take_all, drop, drop-drop, refl, sym, ap, subst, ◌∙◌, arith, eqb}
use Rattle.std.proofs.Common.{⊎_elim, ◌⊎◌, inl, inr, Option, None, Some}
use Rattle.std.specs.List.{flat_map}
use Rattle.std.specs.declared.time.Duration.{Duration}
use Rattle.std.proofs.lemmas.Bool.{true≢false, eqb-true, eqb-false, ne_eqb, cond_both}
use Rattle.std.proofs.lemmas.Option.{none-some, same_Some, cond_some, option_and_then_some}
use Rattle.iox2_machine.specs.machine.Limits.{buffer_limit, channel_count}
use Rattle.iox2_machine.specs.machine.Numbers.{contains, without, size, IsOnce}
use Rattle.iox2_machine.specs.machine.Places.{occupant, occupants}
use Rattle.iox2_machine.specs.machine.Channel.{is_closed}
use Rattle.iox2_machine.specs.machine.Mailbox.{Mailbox, numbers_in, has_borrows, waiting_count, has_room, with_appended}
use Rattle.iox2_machine.specs.machine.Mailbox.{IsWithin, OthersWithin}
use Rattle.iox2_machine.specs.machine.Records.{Loan, Handler, Environment, Publisher, Subscriber, BlockedSend}
use Rattle.iox2_machine.specs.machine.State.{State, held, receiving_buffer, channel_buffer}
use Rattle.iox2_machine.specs.machine.Delivery.{Put, PutAtEnd, Deliver, PutResult, Accepted, Skipped, Failed}
use Rattle.iox2_machine.specs.machine.Delivery.{Would_block, accepted_count, is_failed, is_blocking, DeliveryEnd}
use Rattle.iox2_machine.specs.machine.Delivery.{Complete, Suspended, no_time}
use Rattle.iox2_machine.specs.machine.WellFormed.{LeadsTo, IsInjective, BlockedIsWellFormed, PublisherIsWellFormed}
use Rattle.iox2_machine.specs.machine.WellFormed.{SubscriberIsWellFormed, MailboxIsWellFormed, LoanIsWellFormed}
use Rattle.iox2_machine.specs.machine.WellFormed.{IsWellFormed}
use Rattle.iox2_machine.specs.declared.service_config.ServiceConfig.{ServiceConfig}
use Rattle.iox2_machine.specs.declared.backpressure.BackpressureStrategy.{BackpressureStrategy}
use Rattle.iox2_machine.specs.declared.backpressure.BackpressureAction.{BackpressureAction}
use Rattle.iox2_laws.proofs.Cases.{by_option, by_bool}
use Rattle.iox2_laws.proofs.Puts.{at_each}
use Rattle.iox2_laws.proofs.NumberLemmas.{absent_from, IsOnce-without, contains_in_without, contains-without_same}
use Rattle.iox2_laws.proofs.NumberLemmas.{contains-without_other, length-without_le, size_le, contains_in_flat_map}
use Rattle.iox2_laws.proofs.NumberLemmas.{contains-flat_map}
use Rattle.iox2_laws.proofs.PlaceLemmas.{occupant-drop}
use Rattle.iox2_laws.proofs.MailboxLemmas.{IsWithin-appended, OthersWithin-appended, waiting_count-appended}
use Rattle.iox2_laws.proofs.MailboxLemmas.{contains_in_appended, has_borrows-appended}
use Rattle.iox2_laws.proofs.Altered.{in_three, in_first, in_second, in_third, altered, uniform, altered_keeps}
use Rattle.iox2_laws.proofs.Altered.{mailbox_stays, loan_stays}

-- a further end leads where it did
pub leads_further : (end : Option ℕ) (rest : List (Option ℕ)) (q : ℕ) → LeadsTo rest q → LeadsTo (end ∷ rest) q
leads_further end rest q h = (suc h.0, h.1)

-- two ends don't lead to the same port, even without the first
injective_rest : (end : Option ℕ) (rest : List (Option ℕ)) → IsInjective (end ∷ rest) → IsInjective rest
injective_rest end rest apart i j id h k = let same : suc i ≡ suc j = apart (suc i) (suc j) id h k in
    omega (arith, same)

-- the first of the ends leads nowhere that a further one does
first_apart : (end : Option ℕ) (rest : List (Option ℕ)) (q : ℕ) → IsInjective (end ∷ rest) → end ≡ Some q
    → LeadsTo rest q → ⊥
first_apart end rest q apart h k = let same : zero ≡ suc k.0 = apart zero (suc k.0) q h k.1 in omega (arith, same)

-- The ends are some of the whole from a place on.
abbrev pub AreFrom : (whole ends : List (Option ℕ)) (place : ℕ) → Type 0
AreFrom whole ends place = (count : ℕ) × (ends ≡ take count (drop place whole))

-- all ends from a place on are some
pub all_from : (whole : List (Option ℕ)) (place : ℕ) → AreFrom whole (drop place whole) place
all_from whole place = (
  length (drop place whole),
  sym (take_all (length (drop place whole)) (drop place whole) (le_refl (length (drop place whole)))),
)

-- the first is no end of an empty list
not_first : (end : Option ℕ) (rest : List (Option ℕ)) → end ∷ rest ≡ [] → ⊥
not_first end rest e = absurd cc

-- some of a list that isn't empty, without the first
taken_rest : (end : Option ℕ) (rest xs : List (Option ℕ)) (count : ℕ) → end ∷ rest ≡ take count xs
    → (count' : ℕ) × (rest ≡ take count' (drop 1 xs))
taken_rest end rest xs zero h = absurd (not_first end rest h)
taken_rest end rest [] (suc count) h = absurd (not_first end rest h)
taken_rest end rest (x ∷ xs) (suc count) h = (count, ap (drop 1) h)

taken_first : (end : Option ℕ) (rest xs : List (Option ℕ)) (count : ℕ) → end ∷ rest ≡ take count xs
    → occupant xs 0 ≡ end
taken_first end rest xs zero h = absurd (not_first end rest h)
taken_first end rest [] (suc count) h = absurd (not_first end rest h)
taken_first end rest (x ∷ xs) (suc count) h = ap (λ (l : List (Option ℕ)). occupant l 0) (sym h)

-- the ends from the next place on
pub rest_of : (end : Option ℕ) (rest whole : List (Option ℕ)) (place : ℕ) → AreFrom whole (end ∷ rest) place
    → AreFrom whole rest (place + 1)
rest_of end rest whole place h =
    let later : (count : ℕ) × (rest ≡ take count (drop 1 (drop place whole))) =
    taken_rest end rest (drop place whole) h.0 h.1 in
    (later.0, later.1 ∙ ap (take later.0) (drop-drop 1 place whole))

-- the place of the first of the ends
first_at : (end : Option ℕ) (rest whole : List (Option ℕ)) (place : ℕ) → AreFrom whole (end ∷ rest) place
    → occupant whole place ≡ end
first_at end rest whole place h =
    let same : place ≡ place + 0 = omega arith in
    ap (occupant whole) same ∙ sym (occupant-drop place whole 0) ∙ taken_first end rest (drop place whole) h.0 h.1

-- a receiver counts once at most
accepts_one : (result : PutResult) → accepted_count result ≤ 1
accepts_one Accepted = omega arith
accepts_one Skipped = omega arith
accepts_one Failed = omega arith
accepts_one Would_block = omega arith

-- the blocking result is no acceptance
not_accepted : (result : PutResult) → is_blocking result ≡ true → result ≡ Accepted → ⊥
not_accepted result h e = true≢false (sym h ∙ ap is_blocking e)

-- a suspended delivery says what it is suspended with
same_suspended : (b b' : BlockedSend) → Suspended b ≡ Suspended b' → b ≡ b'
same_suspended b b' e = cc

-- a complete delivery isn't suspended
not_suspended : (count : ℕ) (has_failed : Bool) (b : BlockedSend) → Complete count has_failed ≡ Suspended b → ⊥
not_suspended count has_failed b e = cc

module _ (buffers : ℕ → Option ℕ) (n channel : ℕ) where
  -- At q the mailbox stays, or the message is put there.
  abbrev pub Puts : (boxes boxes' : ℕ → Mailbox) (q : ℕ) → Type 0
  Puts boxes boxes' q = (buffer : ℕ) × (buffers q ≡ Some buffer) × (boxes' q ≡ with_appended channel buffer n (boxes q))

  -- What a delivery at these ends does, which are some of the whole from a place on: each mailbox stays, or the message
  -- is put there once; and where it is suspended, those from there on stay, a receiver stands at its place, and no more
  -- receivers have taken the message than stand before that.
  pub record Delivered (whole ends : List (Option ℕ)) (boxes : ℕ → Mailbox) (how : DeliveryEnd)
      (boxes' : ℕ → Mailbox) : Type 0 where
    pub each : (q : ℕ) → (boxes' q ≡ boxes q) ⊎ (LeadsTo ends q × Puts boxes boxes' q)
    pub message : (b : BlockedSend) → how ≡ Suspended b → b.message ≡ n
    pub channel_is : (b : BlockedSend) → how ≡ Suspended b → b.channel ≡ channel
    pub remain : (b : BlockedSend) → how ≡ Suspended b → AreFrom whole b.ends b.place
    pub within : (b : BlockedSend) → how ≡ Suspended b → (q : ℕ) → LeadsTo b.ends q → LeadsTo ends q
    pub unserved : (b : BlockedSend) → how ≡ Suspended b → (q : ℕ) → LeadsTo b.ends q → boxes' q ≡ boxes q
    pub waits : (b : BlockedSend) → how ≡ Suspended b → (q : ℕ) × (occupant whole b.place ≡ Some q)
    pub count_bound : (b : BlockedSend) → how ≡ Suspended b → b.count ≤ b.place

module _ (environment : Environment) (c : ServiceConfig) (p : ℕ) (strategy : BackpressureStrategy)
    (handler : Option (Handler BackpressureAction))
    (buffers : ℕ → Option ℕ) (n channel : ℕ) where
  put_is : (q retries : ℕ) (elapsed : Duration) (buffer : Option ℕ) (box : Mailbox) (result : PutResult)
      (box' : Mailbox)
      → Put environment c p strategy handler buffers n channel q retries elapsed buffer box result box'
      → (box' ≡ box)
      ⊎ ((size : ℕ) × (buffer ≡ Some size) × (box' ≡ with_appended channel size n box) × (result ≡ Accepted))
  put_is q retries elapsed None box result box' h = inl h.1
  put_is q retries elapsed (Some buffer) box result box' h =
      by_bool _ (has_room channel buffer box || c.enable_safe_overflow) _ _ h (λ _ h. inr (buffer, refl, h.1, h.0))
      (λ _ h. inl h.1)

  -- one end: a mailbox stays, or it is the end's and the message is accepted there
  put_at_end_is : (retries : ℕ) (elapsed : Duration) (end : Option ℕ) (boxes : ℕ → Mailbox) (result : PutResult)
      (boxes' : ℕ → Mailbox)
      → PutAtEnd environment c p strategy handler buffers n channel retries elapsed end boxes result boxes' → (q : ℕ)
      → (boxes' q ≡ boxes q) ⊎ ((end ≡ Some q) × (result ≡ Accepted) × Puts buffers n channel boxes boxes' q)
  put_at_end_is retries elapsed end boxes result boxes' h q =
      by_option _ end _ _ h
      (λ _ h. inl (ap (λ (f : ℕ → Mailbox). f q) h.1))
      (λ r leads h. subst (λ (f : ℕ → Mailbox). (f q ≡ boxes q)
      ⊎ ((end ≡ Some q) × (result ≡ Accepted) × Puts buffers n channel boxes f q)) (sym h.2)
      (at_each boxes r h.0 (λ i box. (box ≡ boxes i)
      ⊎ ((end ≡ Some i) × (result ≡ Accepted)
      × ((buffer : ℕ) × (buffers i ≡ Some buffer) × (box ≡ with_appended channel buffer n (boxes i))))) q
      (λ _. ⊎_elim (λ same. inl same) (λ new. inr (leads, new.3, (new.0, new.1, new.2)))
      (put_is r retries elapsed (buffers r) (boxes r) result h.0 h.1))
      (λ _. inl refl)))

  -- an end that blocks leads to a receiver
  blocked_at_receiver : (retries : ℕ) (elapsed : Duration) (end : Option ℕ) (boxes : ℕ → Mailbox) (result : PutResult)
      (boxes' : ℕ → Mailbox)
      → PutAtEnd environment c p strategy handler buffers n channel retries elapsed end boxes result boxes'
      → is_blocking result ≡ true → (q : ℕ) × (end ≡ Some q)
  blocked_at_receiver retries elapsed end boxes result boxes' h blocks =
      by_option ((q : ℕ) × (end ≡ Some q)) end _ _ h (λ _ h. absurd (true≢false (sym blocks ∙ ap is_blocking h.0)))
      (λ q leads _. (q, leads))

  -- a delivery does what `Delivered` says
  pub deliver_is : (retries : ℕ) (elapsed : Duration) (place : ℕ) (ends : List (Option ℕ)) (count : ℕ)
      (has_failed : Bool) (whole : List (Option ℕ))
      (boxes : ℕ → Mailbox) (how : DeliveryEnd) (boxes' : ℕ → Mailbox)
      → IsInjective ends → AreFrom whole ends place → count ≤ place
      → Deliver environment c p strategy handler buffers n channel retries elapsed place ends count has_failed boxes how
      boxes'
      → Delivered buffers n channel whole ends boxes how boxes'
  deliver_is retries elapsed place [] count has_failed whole boxes how boxes' apart tail few h = record {
    each = λ q. inl (ap (λ (f : ℕ → Mailbox). f q) h.1);
    message = λ b e. absurd (not_suspended count has_failed b (sym h.0 ∙ e));
    channel_is = λ b e. absurd (not_suspended count has_failed b (sym h.0 ∙ e));
    remain = λ b e. absurd (not_suspended count has_failed b (sym h.0 ∙ e));
    within = λ b e. absurd (not_suspended count has_failed b (sym h.0 ∙ e));
    unserved = λ b e. absurd (not_suspended count has_failed b (sym h.0 ∙ e));
    waits = λ b e. absurd (not_suspended count has_failed b (sym h.0 ∙ e));
    count_bound = λ b e. absurd (not_suspended count has_failed b (sym h.0 ∙ e));
  }
  deliver_is retries elapsed place (end ∷ rest) count has_failed whole boxes how boxes' apart tail few h =
      let result : PutResult = h.0 in
      let mid : ℕ → Mailbox = h.1 in
      let step : (q : ℕ)
      → (mid q ≡ boxes q) ⊎ ((end ≡ Some q) × (result ≡ Accepted) × Puts buffers n channel boxes mid q) =
      put_at_end_is retries elapsed end boxes result mid h.2 in
      by_bool (Delivered buffers n channel whole (end ∷ rest) boxes how boxes') (is_blocking result) _ _ h.3
      (λ blocks k.
      let stop : BlockedSend = record {
        message = n;
        channel = channel;
        place = place;
        ends = end ∷ rest;
        retries = retries;
        count = count;
        has_failed = has_failed;
      } in
      let is_stop : (b : BlockedSend) → how ≡ Suspended b → stop ≡ b = λ b e. same_suspended stop b (sym k.0 ∙ e) in
      let same : (q : ℕ) → boxes' q ≡ boxes q =
      λ q. ap (λ (f : ℕ → Mailbox). f q) k.1 ∙ ⊎_elim (λ e. e) (λ put. absurd (not_accepted result blocks put.1))
      (step q) in
      record {
        each = λ q. inl (same q);
        message = λ b e. ap (λ (v : BlockedSend). v.message) (sym (is_stop b e));
        channel_is = λ b e. ap (λ (v : BlockedSend). v.channel) (sym (is_stop b e));
        remain = λ b e. subst (λ (v : BlockedSend). AreFrom whole v.ends v.place) (is_stop b e) tail;
        within = λ b e q leads. subst (λ (v : BlockedSend). LeadsTo v.ends q) (sym (is_stop b e)) leads;
        unserved = λ b e q _. same q;
        waits = λ b e. let receiver : (q : ℕ)
            × (end ≡ Some q) = blocked_at_receiver retries elapsed end boxes result mid h.2 blocks in
            subst (λ (v : BlockedSend). (q : ℕ) × (occupant whole v.place ≡ Some q)) (is_stop b e)
            (receiver.0, first_at end rest whole place tail ∙ receiver.1);
        count_bound = λ b e. subst (λ (v : BlockedSend). v.count ≤ v.place) (is_stop b e) few;
      })
      (λ _ k.
      let later : Delivered buffers n channel whole rest mid how boxes' =
      deliver_is 0 no_time (place + 1) rest (count + accepted_count result)
      (has_failed || is_failed result) whole mid how boxes'
      (injective_rest end rest apart) (rest_of end rest whole place tail) (omega (arith, accepts_one result)) k in
      record {
        each = λ q. ⊎_elim
            (λ same. ⊎_elim (λ first. inl (same ∙ first))
            (λ put. inr ((zero, put.0), ((put.2).0, (put.2).1, same ∙ (put.2).2))) (step q))
            (λ put. ⊎_elim
            (λ first. inr (
              leads_further end rest q put.0,
              ((put.1).0, (put.1).1, (put.1).2 ∙ ap (with_appended channel (put.1).0 n) first),
            ))
            (λ first. absurd (first_apart end rest q apart first.0 put.0)) (step q))
            (later.each q);
        message = later.message;
        channel_is = later.channel_is;
        remain = later.remain;
        within = λ b e q leads. leads_further end rest q (later.within b e q leads);
        unserved = λ b e q leads. later.unserved b e q leads
            ∙ ⊎_elim (λ first. first)
            (λ first. absurd (first_apart end rest q apart first.0 (later.within b e q leads))) (step q);
        waits = later.waits;
        count_bound = later.count_bound;
      })

-- ---- the state in which a message is delivered

module _ {T U : Type 0} where
  -- a subscriber that takes messages in a channel takes messages
  pub taken_by_open : (s : State T U) (p channel q buffer : ℕ) → channel_buffer s p channel q ≡ Some buffer
      → receiving_buffer s q ≡ Some buffer
  taken_by_open s p channel q buffer =
      cond_both (is_closed (s.channels p q channel)) None (receiving_buffer s q)
      (λ o. o ≡ Some buffer → receiving_buffer s q ≡ Some buffer)
      (λ _ h. absurd (none-some buffer h)) (λ _ h. h)

  -- The message n of p is out and may be delivered at these ends: no receiver there has it. From then on these loans
  -- are in the users' hands, and n isn't among them; and the history is this one, in which nothing but n may be new.
  pub record IsUnderway (s : State T U) (p : ℕ) (x : Publisher) (n : ℕ) (loans : ℕ → Option (Loan T U))
      (history : List ℕ) (ends : List (Option ℕ)) : Type 0 where
    pub is_out : contains x.loans n ≡ true
    pub unheld : loans n ≡ None
    pub own : (l : Loan T U) → s.loans n ≡ Some l → l.publisher ≡ p
    pub others : (m : ℕ) → eqb m n ≡ false → loans m ≡ s.loans m
    pub held : (m : ℕ) → eqb m n ≡ false → contains x.loans m ≡ true
        → (l : Loan T U) × (s.loans m ≡ Some l) × (l.publisher ≡ p)
    pub history_bound : length history ≤ (s.config).history_size
    pub history_once : IsOnce history
    pub history_has : (m : ℕ) → contains history m ≡ true → (contains x.history m ≡ true) ⊎ (m ≡ n)
    pub leads : (q : ℕ) → LeadsTo ends q → LeadsTo x.ends q
    pub unserved : (q : ℕ) → LeadsTo ends q → contains (numbers_in (s.mailboxes p q)) n ≡ false

module _ {T U : Type 0} (s : State T U) (w : IsWellFormed s) (p : ℕ) (x : Publisher) (here : s.publishers p ≡ Some x)
    (n channel : ℕ)
    (known : channel < channel_count s.config) (loans : ℕ → Option (Loan T U))
    (history : List ℕ) (ends : List (Option ℕ)) (how : DeliveryEnd) (boxes : ℕ → Mailbox)
    (u : IsUnderway s p x n loans history ends)
    (d : Delivered (channel_buffer s p channel) n channel x.ends ends (s.mailboxes p) how boxes) where
  publisher : PublisherIsWellFormed s p x
  publisher = w.publishers p x here

  low : n < s.next_message
  low = publisher.loans_below n u.is_out

  -- what is in a mailbox was there, or it is the message
  in_boxes : (q m : ℕ) → contains (numbers_in (boxes q)) m ≡ true
      → (m ≡ n) ⊎ (contains (numbers_in (s.mailboxes p q)) m ≡ true)
  in_boxes q m h = ⊎_elim
      (λ same. inr (ap (λ k. contains (numbers_in k) m) (sym same) ∙ h))
      (λ put. contains_in_appended channel (put.1).0 n (s.mailboxes p q) m
      (ap (λ k. contains (numbers_in k) m) (sym (put.1).2) ∙ h))
      (d.each q)

  absent_still : (q m : ℕ) → eqb m n ≡ false → contains (numbers_in (s.mailboxes p q)) m ≡ false
      → contains (numbers_in (boxes q)) m ≡ false
  absent_still q m apart absent = absent_from (numbers_in (boxes q)) m
      (λ h. ⊎_elim (eqb-false m n apart) (λ k. true≢false (sym k ∙ absent)) (in_boxes q m h))

  -- what was borrowed is so still
  borrowed_still : (q : ℕ) → has_borrows (s.mailboxes p q) ≡ true → has_borrows (boxes q) ≡ true
  borrowed_still q h = ⊎_elim (λ same. ap has_borrows same ∙ h)
      (λ put. ap has_borrows (put.1).2 ∙ has_borrows-appended channel (put.1).0 n (s.mailboxes p q) ∙ h) (d.each q)

  -- no more is held than before
  holds_fewer : (out : List ℕ) → ((m : ℕ) → contains out m ≡ true → contains x.loans m ≡ true)
      → size (out ++ history ++ flat_map (λ q. numbers_in (boxes q)) (occupants x.ends)) ≤ size (held s p x)
  holds_fewer out still =
      let after : List ℕ = flat_map (λ q. numbers_in (boxes q)) (occupants x.ends) in
      let before : List ℕ = flat_map (λ q. numbers_in (s.mailboxes p q)) (occupants x.ends) in
      let message : (m : ℕ) → m ≡ n → contains (x.loans ++ x.history ++ before) m ≡ true = λ m same.
      in_first x.loans x.history before m (ap (contains x.loans) same ∙ u.is_out) in
      size_le (out ++ history ++ after) (x.loans ++ x.history ++ before) (λ m h. in_three out history after m _ h
      (λ k. in_first x.loans x.history before m (still m k))
      (λ k. ⊎_elim (in_second x.loans x.history before m) (message m) (u.history_has m k))
      (λ k. let at : (q : ℕ) × (contains (occupants x.ends) q ≡ true)
      × (contains (numbers_in (boxes q)) m ≡ true) = contains_in_flat_map
      (λ q. numbers_in (boxes q)) (occupants x.ends) m k in
      ⊎_elim (message m)
      (λ old. in_third x.loans x.history before m
      (contains-flat_map (λ q. numbers_in (s.mailboxes p q)) (occupants x.ends) at.0 m at.1 old))
      (in_boxes at.0 m at.2)))

  -- a mailbox into which the message was put
  appended_is_well_formed : (x' : Publisher) → x'.ends ≡ x.ends → (q buffer : ℕ) → LeadsTo ends q
      → channel_buffer s p channel q ≡ Some buffer
      → boxes q ≡ with_appended channel buffer n (s.mailboxes p q)
      → MailboxIsWellFormed (uniform s x' boxes loans s.next_message) p q
  appended_is_well_formed x' same_ends q buffer end takes put =
      option_and_then_some (λ (y : Subscriber). cond y.is_open (Some y.buffer) None) (s.subscribers q) buffer
      (taken_by_open s p channel q buffer takes) (λ y found is_buffer.
      let m : MailboxIsWellFormed s p q = w.mailboxes p q in
      let v : SubscriberIsWellFormed s q y = w.subscribers q y found in
      let size : y.buffer ≡ buffer = (cond_some y.is_open y.buffer buffer is_buffer).1 in
      let some : 0 < buffer = omega (arith, v.some_room, size) in
      let room : waiting_count (s.mailboxes p q) ≤ buffer = omega (arith, m.room y found, size) in
      record {
        within = subst (λ (k : Mailbox). IsWithin (buffer_limit s.config) (s.config).subscriber_max_borrowed_samples k)
            (sym put)
            (IsWithin-appended (buffer_limit s.config) (s.config).subscriber_max_borrowed_samples channel buffer n
            (s.mailboxes p q) some
            (subst (λ i. i ≤ buffer_limit s.config) size v.buffer_bound) room (u.unserved q end) m.within);
        others = subst (λ (k : Mailbox). OthersWithin (channel_count s.config) (buffer_limit s.config) k) (sym put)
            (OthersWithin-appended (channel_count s.config) (buffer_limit s.config) channel buffer n
            (s.mailboxes p q) known some
            (subst (λ i. i ≤ buffer_limit s.config) size v.buffer_bound)
            (subst (λ i. OthersWithin (channel_count s.config) i (s.mailboxes p q)) size (m.others_room y found))
            m.others);
        others_room = λ z e. subst (λ (k : Mailbox). OthersWithin (channel_count s.config) z.buffer k) (sym put)
            (subst (λ i. OthersWithin (channel_count s.config) i (with_appended channel buffer n (s.mailboxes p q)))
            (sym size ∙ ap (λ (o : Subscriber). o.buffer) (same_Some y z (sym found ∙ e)))
            (OthersWithin-appended (channel_count s.config) buffer channel buffer n (s.mailboxes p q) known some
            (le_refl buffer)
            (subst (λ i. OthersWithin (channel_count s.config) i (s.mailboxes p q)) size (m.others_room y found))
            (subst (λ i. OthersWithin (channel_count s.config) i (s.mailboxes p q)) size (m.others_room y found))));
        room = λ z e. subst (λ (k : Mailbox). waiting_count k ≤ z.buffer) (sym put)
            (subst (λ i. waiting_count (with_appended channel buffer n (s.mailboxes p q)) ≤ i)
            (sym size ∙ ap (λ (o : Subscriber). o.buffer) (same_Some y z (sym found ∙ e)))
            (waiting_count-appended channel buffer n (s.mailboxes p q) some room));
        below = λ k h.
            ⊎_elim (λ same. subst (λ i. i < s.next_message) (sym same) low) (λ old. m.below k old) (in_boxes q k h);
        known = λ _. (publisher.is_known, v.is_known);
        sender_end = λ z e _. subst (λ (o : Publisher). LeadsTo o.ends q) (same_Some x' z e)
            (subst (λ places. LeadsTo places q) (sym same_ends) (u.leads q end));
        receiver_end = λ h. m.receiver_end
            (sym (has_borrows-appended channel buffer n (s.mailboxes p q)) ∙ ap has_borrows (sym put) ∙ h);
        departed = λ gone _. absurd (none-some x' (sym gone));
      })

  -- whatever becomes of the publisher, which keeps its place and its ends, and has that history
  concluded_keeps : (x' : Publisher) → x'.place ≡ x.place → x'.ends ≡ x.ends → x'.history ≡ history
      → ((m : ℕ) → eqb m n ≡ false → contains x.loans m ≡ true → contains x'.loans m ≡ true)
      → PublisherIsWellFormed (uniform s x' boxes loans s.next_message) p x'
      → IsWellFormed (altered s p x' boxes loans s.next_message)
  concluded_keeps x' place same_ends same_history out own =
      altered_keeps s p x x' boxes loans s.next_message w here place (le_refl s.next_message) own
      (λ q. ⊎_elim (λ same. mailbox_stays s p x x' boxes loans s.next_message here
      (le_refl s.next_message) q same_ends same (w.mailboxes p q))
      (λ put. appended_is_well_formed x' same_ends q (put.1).0 put.0 (put.1).1 (put.1).2) (d.each q))
      borrowed_still
      (λ m l e.
      let apart : eqb m n ≡ false = ne_eqb m n (λ same. none-some l (sym u.unheld ∙ ap loans (sym same) ∙ e)) in
      let old : s.loans m ≡ Some l = sym (u.others m apart) ∙ e in
      elim (eqb l.publisher p) as (λ t. eqb l.publisher p ≡ t
      → ((s.loans m ≡ Some l) × (t ≡ false))
      ⊎ ((l.publisher ≡ p) × LoanIsWellFormed (uniform s x' boxes loans s.next_message) m l)) [
        | true ↦ λ same. inr (
          eqb-true l.publisher p same,
          loan_stays s p x x' boxes loans s.next_message here (le_refl s.next_message) m l (eqb-true l.publisher p same)
              (out m apart)
              (λ absent.
              absent_from x'.history m (λ k. ⊎_elim (λ sent. true≢false (sym sent ∙ absent)) (eqb-false m n apart)
              (u.history_has m (ap (λ ns. contains ns m) (sym same_history) ∙ k))))
              (λ q. absent_still q m apart) (w.loans m l old),
        )
        | false ↦ λ _. inl (old, refl)
      ] refl)
      (λ m l e other. elim (eqb m n) as (λ t. eqb m n ≡ t → loans m ≡ Some l) [
        | true ↦ λ same. absurd (eqb-false l.publisher p other (u.own l (ap s.loans (sym (eqb-true m n same)) ∙ e)))
        | false ↦ λ apart. u.others m apart ∙ e
      ] refl)
      (λ m _ e. elim (eqb m n) as (λ t. eqb m n ≡ t → loans m ≡ None) [
        | true ↦ λ same. ap loans (eqb-true m n same) ∙ u.unheld
        | false ↦ λ apart. u.others m apart ∙ e
      ] refl)

  history_below : (m : ℕ) → contains history m ≡ true → m < s.next_message
  history_below m h = ⊎_elim (λ old. publisher.history_below m old)
      (λ same. subst (λ i. i < s.next_message) (sym same) low) (u.history_has m h)

  -- a loan that is out is in its user's hands
  held_still : (m : ℕ) → eqb m n ≡ false → contains x.loans m ≡ true
      → (l : Loan T U) × (loans m ≡ Some l) × (l.publisher ≡ p)
  held_still m apart h =
      let old : (l : Loan T U) × (s.loans m ≡ Some l) × (l.publisher ≡ p) = u.held m apart h in
      (old.0, u.others m apart ∙ old.1, old.2)

  -- the publisher with these loans out and that send blocked, where the loans are some of those before
  sent_is : (out : List ℕ) (waits : Option BlockedSend) → length out ≤ length x.loans → IsOnce out
      → ((m : ℕ) → contains out m ≡ true → contains x.loans m ≡ true)
      → ((m : ℕ) → contains out m ≡ true
      → ((l : Loan T U) × (loans m ≡ Some l) × (l.publisher ≡ p))
      ⊎ ((b : BlockedSend) × (waits ≡ Some b) × (b.message ≡ m)))
      → ((b : BlockedSend) → waits ≡ Some b
      → BlockedIsWellFormed
      (uniform s (record x { loans = out; history = history; blocked = waits }) boxes loans s.next_message) p
      (record x { loans = out; history = history; blocked = waits }) b)
      → PublisherIsWellFormed
      (uniform s (record x { loans = out; history = history; blocked = waits }) boxes loans s.next_message) p
      (record x { loans = out; history = history; blocked = waits })
  sent_is out waits fewer once still held blocked = record {
    is_known = publisher.is_known;
    loans_bound = omega (arith, fewer, publisher.loans_bound);
    loans_once = once;
    loans_below = λ m h. publisher.loans_below m (still m h);
    loans_held = held;
    history_bound = u.history_bound;
    history_once = u.history_once;
    history_below = history_below;
    ends_bound = publisher.ends_bound;
    ends_apart = publisher.ends_apart;
    ends_known = publisher.ends_known;
    ends_stand = publisher.ends_stand;
    slots_bound = λ static. omega (arith, holds_fewer out still, publisher.slots_bound static);
    some_segment = publisher.some_segment;
    segments_bound = publisher.segments_bound;
    blocked = blocked;
  }

  -- the send ends: its message is out no more
  pub ended_keeps : IsWellFormed (altered s p
      (record x { loans = without n x.loans; history = history; blocked = None }) boxes loans s.next_message)
  ended_keeps =
      concluded_keeps (record x { loans = without n x.loans; history = history; blocked = None }) refl refl refl
      (λ m. contains-without_other n m x.loans)
      (sent_is (without n x.loans) None (length-without_le n x.loans) (IsOnce-without n x.loans publisher.loans_once)
      (λ m. contains_in_without n m x.loans)
      (λ m h. inl (held_still m
      (ne_eqb m n
      (λ same. true≢false (sym h ∙ ap (contains (without n x.loans)) same ∙ contains-without_same n x.loans)))
      (contains_in_without n m x.loans h)))
      (λ b e. absurd (none-some b e)))

  -- the send waits for a receiver
  pub blocked_keeps : (b : BlockedSend) → how ≡ Suspended b
      → IsWellFormed (altered s p (record x { history = history; blocked = Some b }) boxes loans s.next_message)
  blocked_keeps b stopped =
      concluded_keeps (record x { history = history; blocked = Some b }) refl refl refl (λ m _ h. h)
      (sent_is x.loans (Some b) (le_refl (length x.loans)) publisher.loans_once (λ m h. h)
      (λ m h. elim (eqb m n) as (λ t. eqb m n ≡ t → ((l : Loan T U) × (loans m ≡ Some l) × (l.publisher ≡ p))
      ⊎ ((b' : BlockedSend) × (Some b ≡ Some b') × (b'.message ≡ m))) [
        | true ↦ λ same. inr (b, refl, d.message b stopped ∙ sym (eqb-true m n same))
        | false ↦ λ apart. inl (held_still m apart h)
      ] refl)
      (λ b2 e. subst (λ (v : BlockedSend). BlockedIsWellFormed
      (uniform s (record x { history = history; blocked = Some b }) boxes loans s.next_message) p
      (record x { history = history; blocked = Some b }) v) (same_Some b b2 e) (record {
        is_out = ap (contains x.loans) (d.message b stopped) ∙ u.is_out;
        unheld = ap loans (d.message b stopped) ∙ u.unheld;
        ends = d.remain b stopped;
        channel = subst (λ k. k < channel_count s.config) (sym (d.channel_is b stopped)) known;
        unserved = λ q h. ap (λ (k : Mailbox). contains (numbers_in k) b.message) (d.unserved b stopped q h)
            ∙ ap (contains (numbers_in (s.mailboxes p q))) (d.message b stopped)
            ∙ u.unserved q (d.within b stopped q h);
        waits = d.waits b stopped;
        count_bound = d.count_bound b stopped;
      })))
