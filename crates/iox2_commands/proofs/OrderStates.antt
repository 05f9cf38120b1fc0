-- A message that is sent or received in a state of a run.
use Rattle.std.proofs.Common.{◌≡◌, ℕ, ◌≤◌, ◌<◌, ◌+◌, Bool, true, false, List, [], ◌∷◌, ◌++◌, take, drop, refl, sym, ap}
use Rattle.std.proofs.Common.{subst, ◌∙◌, arith, eqb, ⊎_elim, Option, None, Some}
use Rattle.std.specs.Option.{option_map}
use Rattle.std.specs.declared.time.Duration.{Duration}
use Rattle.std.proofs.lemmas.Bool.{eqb-true, eqb-false}
use Rattle.std.proofs.lemmas.Option.{none-some, same_Some}
use Rattle.iox2_machine.specs.machine.Numbers.{put_at, contains, last_n, without, IsOnce}
use Rattle.iox2_machine.specs.machine.Mailbox.{Mailbox}
use Rattle.iox2_machine.specs.machine.Records.{Loan, Publisher, Subscriber, Environment, BlockedSend}
use Rattle.iox2_machine.specs.machine.State.{State, is_open, channel_buffer, with_loan}
use Rattle.iox2_machine.specs.machine.Delivery.{DeliveryEnd, Complete, Suspended, no_time}
use Rattle.iox2_machine.specs.machine.Sends.{SendResult, published, send_ended, send_blocked, with_mailboxes}
use Rattle.iox2_machine.specs.machine.Sends.{ConcludeSend, DeliverAndConclude, Publish, Retry, GiveUp, more_retries}
use Rattle.iox2_machine.specs.machine.WellFormed.{LeadsTo, IsInjective, IsWellFormed, BlockedIsWellFormed}
use Rattle.iox2_laws.specs.Sendings.{sending}
use Rattle.iox2_laws.proofs.SendLaws.{injective_take, injective_drop}
use Rattle.iox2_laws.proofs.Cases.{by_option}
use Rattle.iox2_laws.proofs.Puts.{at_each, found_put, found_removed, put_at-same, put_at-other}
use Rattle.iox2_laws.proofs.PlaceLemmas.{occupant-drop}
use Rattle.iox2_laws.proofs.NumberLemmas.{absent_in_append, absent_one, contains_in_append, contains_one, IsOnce-push}
use Rattle.iox2_commands.specs.Runs.{IsSubsequence}
use Rattle.iox2_commands.proofs.Subsequences.{IsSubsequence-refl, IsSubsequence-trans, IsSubsequence-last_n}
use Rattle.iox2_commands.proofs.Subsequences.{IsSubsequence-push, IsSubsequence-more}
use Rattle.iox2_commands.proofs.Ordered.{Ordered, BlockedInOrder}
use Rattle.iox2_commands.proofs.OrderSends.{Serving, LeftSo, deliver_in_order}
use Rattle.iox2_laws.proofs.SendLaws.{injective_drop}
use Rattle.iox2_laws.proofs.BegunSends.{begun_send}

-- the one key or another
by_key : (i k : ℕ) (R : Type 0) → (i ≡ k → R) → (eqb i k ≡ false → R) → R
by_key i k R same other =
    elim (eqb i k) as (λ b. eqb i k ≡ b → R) [ true ↦ λ e. same (eqb-true i k e) | false ↦ λ e. other e ] refl

-- a blocked send whose receivers have these mailboxes
abbrev BlockedWith : (p0 : ℕ) → (out : ℕ → List ℕ) → (got : ℕ → ℕ → List ℕ) → (p : ℕ) → (ℕ → Mailbox) → BlockedSend
    → Type 0
BlockedWith p0 out got p boxes b =
    (before : List ℕ) × (out p ≡ before ++ b.message ∷ [])
    × ((q : ℕ) → p0 ≤ q → LeadsTo b.ends q → IsSubsequence (got p q ++ (boxes q).waiting) before)

module _ {T U : Type 0} where
  -- Of one publisher the mailboxes have changed, and neither its history nor its ends; and of the others nothing.
  pub record RowChanged (s s' : State T U) (p : ℕ) (x x' : Publisher) (boxes : ℕ → Mailbox) : Type 0 where
    pub next_port : s'.next_port ≡ s.next_port
    pub next_message : s'.next_message ≡ s.next_message
    pub loans : (n : ℕ) → s'.loans n ≡ s.loans n
    pub opened : (q : ℕ) → is_open s' q ≡ is_open s q
    pub here : s'.publishers p ≡ Some x'
    pub history : x'.history ≡ x.history
    pub ends : x'.ends ≡ x.ends
    pub others : (i : ℕ) → eqb i p ≡ false → s'.publishers i ≡ s.publishers i
    pub row : s'.mailboxes p ≡ boxes
    pub rows : (i : ℕ) → eqb i p ≡ false → s'.mailboxes i ≡ s.mailboxes i

  module _ (p0 n0 : ℕ) (out : ℕ → List ℕ) (got : ℕ → ℕ → List ℕ) where
    module _ (s s' : State T U) (p : ℕ) (x x' : Publisher) (boxes : ℕ → Mailbox) (w : Ordered p0 n0 out got s)
        (present : s.publishers p ≡ Some x) (k : RowChanged s s' p x x' boxes)
        (whole : (q : ℕ) → p0 ≤ q → IsSubsequence (got p q ++ (boxes q).waiting) (out p))
        (waits : (b : BlockedSend) → x'.blocked ≡ Some b → BlockedWith p0 out got p boxes b) where
      -- the publisher that is found is the changed one, or another that was there before
      found : (i : ℕ) (z : Publisher) (R : Type 0) → s'.publishers i ≡ Some z → (i ≡ p → x' ≡ z → R)
          → (eqb i p ≡ false → s.publishers i ≡ Some z → R) → R
      found i z R e same other =
          by_key i p R (λ here. same here (same_Some x' z (sym k.here ∙ ap s'.publishers (sym here) ∙ e)))
          (λ apart. other apart (sym (k.others i apart) ∙ e))

      of_row : (P : ℕ → (ℕ → Mailbox) → Type 0) (i : ℕ) → (i ≡ p → P p boxes) → (eqb i p ≡ false → P i (s.mailboxes i))
          → P i (s'.mailboxes i)
      of_row P i new old =
          by_key i p (P i (s'.mailboxes i)) (λ here. subst (λ j. P j (s'.mailboxes j)) (sym here)
          (subst (P p) (sym k.row) (new here))) (λ apart. subst (P i) (sym (k.rows i apart)) (old apart))

      blocked_after : (i : ℕ) (z : Publisher) (b : BlockedSend) → p0 ≤ i → s'.publishers i ≡ Some z → z.blocked ≡ Some b
          → BlockedInOrder p0 out got s' i b
      blocked_after i z b new e f =
          found i z (BlockedInOrder p0 out got s' i b) e
          (λ here same.
          let v : BlockedWith p0 out got p boxes b = waits b (ap (λ (y : Publisher). y.blocked) same ∙ f) in
          subst (λ j. BlockedInOrder p0 out got s' j b) (sym here) (record {
            before = v.0;
            last = v.1;
            unserved = λ q new_q l. subst (λ (row : ℕ → Mailbox). IsSubsequence (got p q ++ (row q).waiting) v.0)
                (sym k.row) (v.2 q new_q l);
          }))
          (λ apart old.
          let v : BlockedInOrder p0 out got s i b = w.blocked i z b new old f in record {
            before = v.before;
            last = v.last;
            unserved = λ q new_q l. subst (λ (row : ℕ → Mailbox). IsSubsequence (got i q ++ (row q).waiting) v.before)
                (sym (k.rows i apart)) (v.unserved q new_q l);
          })

      -- What holds before holds after it, where the new mailboxes keep to what was sent.
      pub row_changed_keeps : Ordered p0 n0 out got s'
      row_changed_keeps = record {
        ports = omega (arith, w.ports, k.next_port);
        numbers = omega (arith, w.numbers, k.next_message);
        loans = λ n l e. w.loans n l (sym (k.loans n) ∙ e);
        order = λ i q new. of_row (λ i row. IsSubsequence (got i q ++ (row q).waiting) (out i)) i (λ _. whole q new)
            (λ _. w.order i q new);
        silent = w.silent;
        history = λ i z new e. found i z (IsSubsequence z.history (out i)) e
            (λ here same. subst (λ j. IsSubsequence z.history (out j)) (sym here)
            (subst (λ h. IsSubsequence h (out p)) (sym k.history ∙ ap (λ (y : Publisher). y.history) same)
            (w.history p x (subst (λ j. p0 ≤ j) here new) present)))
            (λ _ old. w.history i z new old);
        unconnected = λ i q z new new_q e opened no_end. found i z (got i q ≡ []) e
            (λ here same. subst (λ j. got j q ≡ []) (sym here)
            (w.unconnected p q x (subst (λ j. p0 ≤ j) here new) new_q present (sym (k.opened q) ∙ opened)
            (λ l. no_end (subst (λ v. LeadsTo v q) (sym k.ends ∙ ap (λ (y : Publisher). y.ends) same) l))))
            (λ _ old. w.unconnected i q z new new_q old (sym (k.opened q) ∙ opened) no_end);
        unmade = λ i high. w.unmade i (omega (arith, k.next_port));
        unmade_receiver = λ i q high. w.unmade_receiver i q (omega (arith, k.next_port));
        once = w.once;
        unsent = λ i n l e. w.unsent i n l (sym (k.loans n) ∙ e);
        below = λ i n h. omega (arith, w.below i n h, k.next_message);
        blocked = blocked_after;
      }

    -- ---- a delivery goes on

    module _ (environment : Environment) (from t : State T U) (p : ℕ) (x z : Publisher) (b : BlockedSend)
        (w : Ordered p0 n0 out got from) (new : p0 ≤ p)
        (present : from.publishers p ≡ Some x) (waits : x.blocked ≡ Some b)
        (k : RowChanged from t p x z (from.mailboxes p)) where
      after_row : (z' : Publisher) (boxes : ℕ → Mailbox) (s' : State T U) → s'.next_port ≡ t.next_port
          → s'.next_message ≡ t.next_message → s'.loans ≡ t.loans
          → s'.subscribers ≡ t.subscribers
          → s'.publishers ≡ put_at t.publishers p (Some z') → s'.mailboxes ≡ put_at t.mailboxes p boxes
          → z'.history ≡ z.history → z'.ends ≡ z.ends
          → RowChanged from s' p x z' boxes
      after_row z' boxes s' e_port e_message e_loans e_subscribers e_publishers e_mailboxes e_history e_ends = record {
        next_port = e_port ∙ k.next_port;
        next_message = e_message ∙ k.next_message;
        loans = λ n. ap (λ (f : ℕ → Option (Loan T U)). f n) e_loans ∙ k.loans n;
        opened = λ q.
            ap (λ (f : ℕ → Option Subscriber). is_open (record t { subscribers = f }) q) e_subscribers ∙ k.opened q;
        here = ap (λ (f : ℕ → Option Publisher). f p) e_publishers ∙ put_at-same t.publishers p (Some z');
        history = e_history ∙ k.history;
        ends = e_ends ∙ k.ends;
        others = λ i apart. ap (λ (f : ℕ → Option Publisher). f i) e_publishers
            ∙ put_at-other t.publishers p (Some z') i apart ∙ k.others i apart;
        row = ap (λ (f : ℕ → ℕ → Mailbox). f p) e_mailboxes ∙ put_at-same t.mailboxes p boxes;
        rows = λ i apart.
            ap (λ (f : ℕ → ℕ → Mailbox). f i) e_mailboxes ∙ put_at-other t.mailboxes p boxes i apart ∙ k.rows i apart;
      }

      conclude_ordered : (before : List ℕ) → out p ≡ before ++ b.message ∷ []
          → (how : DeliveryEnd) (boxes : ℕ → Mailbox) (s' : State T U) (result : SendResult)
          → LeftSo p0 (got p) before b.message how boxes
          → ConcludeSend (with_mailboxes t p boxes) p b.message how s' result → Ordered p0 n0 out got s'
      conclude_ordered before last (Complete count has_failed) boxes s' result v h =
          let z' : Publisher = record z { loans = without b.message z.loans; blocked = None } in
          let ended : RowChanged from (send_ended (with_mailboxes t p boxes) p b.message) p x z' boxes =
          after_row z' boxes (send_ended (with_mailboxes t p boxes) p b.message) refl refl refl refl
          (ap (λ o. put_at t.publishers p
          (option_map {T = Publisher} (λ (y : Publisher).
          record y { loans = without b.message y.loans; blocked = None }) o)) k.here) refl refl refl in
          subst (Ordered p0 n0 out got) (sym h.0)
          (row_changed_keeps from _ p x z' boxes w present ended
          (λ q new_q. subst (IsSubsequence (got p q ++ (boxes q).waiting)) (sym last) (v.whole q new_q))
          (λ b' e. absurd (none-some b' e)))
      conclude_ordered before last (Suspended b') boxes s' result v h =
          let z' : Publisher = record z { blocked = Some b' } in
          let blocked : RowChanged from (send_blocked (with_mailboxes t p boxes) p b') p x z' boxes =
          after_row z' boxes (send_blocked (with_mailboxes t p boxes) p b') refl refl refl refl
          (ap (λ o. put_at t.publishers p (option_map {T = Publisher}
          (λ (y : Publisher). record y { blocked = Some b' }) o)) k.here) refl refl refl in
          let left : Serving p0 (got p) before b.message b'.ends boxes = v.1 in
          subst (Ordered p0 n0 out got) (sym h.0)
          (row_changed_keeps from _ p x z' boxes w present blocked
          (λ q new_q. subst (IsSubsequence (got p q ++ (boxes q).waiting)) (sym last) (left.whole q new_q))
          (λ b'' e. subst (BlockedWith p0 out got p boxes) (same_Some b' b'' e)
          (before, last ∙ ap (λ m. before ++ m ∷ []) (sym v.0), left.unserved)))

      -- A delivery of the blocked message goes on at these ends, which are among those that haven't got it.
      pub deliver_ordered : (channel retries : ℕ) (elapsed : Duration) (place : ℕ) (ends : List (Option ℕ)) (count : ℕ)
          (has_failed : Bool) (s' : State T U) (result : SendResult)
          → IsInjective ends → ((q : ℕ) → LeadsTo ends q → LeadsTo b.ends q)
          → DeliverAndConclude environment t p (sending b.message channel retries place ends count has_failed) elapsed
          s' result → Ordered p0 n0 out got s'
      deliver_ordered channel retries elapsed place ends count has_failed s' result apart among h =
          let v : BlockedInOrder p0 out got from p b = w.blocked p x b new present waits in
          let start : Serving p0 (got p) v.before b.message ends (t.mailboxes p) = record {
            whole = λ q new_q. subst (λ (row : ℕ → Mailbox).
                IsSubsequence (got p q ++ (row q).waiting) (v.before ++ b.message ∷ [])) (sym k.row)
                (subst (IsSubsequence (got p q ++ (from.mailboxes p q).waiting)) v.last (w.order p q new_q));
            unserved = λ q new_q l. subst (λ (row : ℕ → Mailbox). IsSubsequence (got p q ++ (row q).waiting) v.before)
                (sym k.row) (v.unserved q new_q (among q l));
          } in
          by_option (Ordered p0 n0 out got s') (t.publishers p) _ _ h (λ _ j. absurd j) (λ y _ j.
          conclude_ordered v.before v.last j.0 j.1 s' result
          (deliver_in_order p0 (got p) v.before b.message environment t.config p y.backpressure_strategy
          y.backpressure_handler (channel_buffer t p channel)
          channel retries elapsed place ends count has_failed (t.mailboxes p) j.0 j.1 apart start j.2)
          j.3)

    -- ---- a blocked send is tried again or given up

    module _ (environment : Environment) (s : State T U) (p : ℕ) (x : Publisher) (b : BlockedSend)
        (w : Ordered p0 n0 out got s) (v : IsWellFormed s) (new : p0 ≤ p)
        (present : s.publishers p ≡ Some x) (waits : x.blocked ≡ Some b) where
      nothing_changed : RowChanged s s p x x (s.mailboxes p)
      nothing_changed = record {
        next_port = refl;
        next_message = refl;
        loans = λ _. refl;
        opened = λ _. refl;
        here = present;
        history = refl;
        ends = refl;
        others = λ _ _. refl;
        row = refl;
        rows = λ _ _. refl;
      }

      ends_apart : IsInjective b.ends
      ends_apart =
          let u : BlockedIsWellFormed s p x b = (v.publishers p x present).blocked b waits in
          subst IsInjective (sym (u.ends).1) (injective_take (u.ends).0 (drop b.place x.ends)
          (injective_drop b.place x.ends (v.publishers p x present).ends_apart))

      -- A blocked send is tried again.
      pub retry_ordered : (elapsed : Duration) (s' : State T U) (result : SendResult)
          → Retry environment s p b elapsed s' result → Ordered p0 n0 out got s'
      retry_ordered elapsed s' result h =
          deliver_ordered environment s s p x x b w new present waits nothing_changed b.channel
          (more_retries b.retries) elapsed b.place b.ends b.count b.has_failed s' result ends_apart (λ q l. l) h

      -- A blocked send is given up.
      pub give_up_ordered : (s' : State T U) (result : SendResult) → GiveUp environment s p b s' result
          → Ordered p0 n0 out got s'
      give_up_ordered s' result h =
          deliver_ordered environment s s p x x b w new present waits nothing_changed b.channel 0 no_time (b.place + 1)
          (drop 1 b.ends) b.count b.has_failed s' result
          (injective_drop 1 b.ends ends_apart) (λ q l. (1 + l.0, sym (occupant-drop 1 b.ends l.0) ∙ l.1)) h

  -- ---- a message is sent

  module _ (p0 n0 : ℕ) (out : ℕ → List ℕ) (got : ℕ → ℕ → List ℕ) where
    module _ (s : State T U) (p n : ℕ) (x : Publisher) (l : Loan T U) (w : Ordered p0 n0 out got s) (v : IsWellFormed s)
        (new : p0 ≤ p) (held : s.loans n ≡ Some l) (present : s.publishers p ≡ Some x)
        (first_wait : BlockedSend) (of_it : first_wait.message ≡ n) (history : List ℕ)
        (part : IsSubsequence history (x.history ++ n ∷ [])) where
      -- The publisher before anybody was asked.
      abbrev pending : Publisher
      pending = record x { history = history; blocked = Some first_wait }

      abbrev with_pending : State T U
      with_pending = record (with_loan s n None) { publishers = put_at s.publishers p (Some pending) }

      abbrev out_then : ℕ → List ℕ
      out_then = put_at out p (out p ++ n ∷ [])

      pending_blocked : BlockedInOrder p0 out_then got with_pending p first_wait
      pending_blocked = record {
        before = out p;
        last = put_at-same out p (out p ++ n ∷ [])
            ∙ ap (λ k. out p ++ k ∷ []) (sym of_it);
        unserved = λ q new_q _. w.order p q new_q;
      }

      -- Once the message counts as sent, nobody has got it.
      pending_ordered : Ordered p0 n0 out_then got with_pending
      pending_ordered = record {
        ports = w.ports;
        numbers = w.numbers;
        loans = λ i a e. found_removed s.loans n i a (n0 ≤ i → p0 ≤ a.publisher) e (λ _ old. w.loans i a old);
        order = λ i q new_q. at_each out p (out p ++ n ∷ [])
            (λ i ns. IsSubsequence (got i q ++ (s.mailboxes i q).waiting) ns) i
            (λ _. IsSubsequence-more (w.order p q new_q) n) (λ _. w.order i q new_q);
        silent = w.silent;
        history =
            λ i z new_i e. found_put s.publishers p pending (λ i z. p0 ≤ i → IsSubsequence z.history (out_then i)) i z e
            (λ _ _. subst (IsSubsequence pending.history) (sym (put_at-same out p (out p ++ n ∷ [])))
            (IsSubsequence-trans part (IsSubsequence-push (w.history p x new present) n)))
            (λ apart old high. subst (IsSubsequence z.history) (sym (put_at-other out p (out p ++ n ∷ []) i apart))
            (w.history i z high old)) new_i;
        unconnected = λ i q z new_i new_q e. found_put s.publishers p pending
            (λ i z. p0 ≤ i → is_open s q ≡ true → (LeadsTo z.ends q → ⊥) → got i q ≡ []) i z e
            (λ _ high. w.unconnected p q x high new_q present) (λ _ old high. w.unconnected i q z high new_q old) new_i;
        unmade = λ i. at_each out p (out p ++ n ∷ []) (λ i ns. s.next_port ≤ i → ns ≡ []) i
            (λ _ high. let low : p < s.next_port = (v.publishers p x present).is_known in absurd (omega arith))
            (λ _. w.unmade i);
        unmade_receiver = w.unmade_receiver;
        once = λ i. at_each out p (out p ++ n ∷ []) (λ _ ns. IsOnce ns) i
            (λ _. IsOnce-push (out p) n (w.once p) (w.unsent p n l held)) (λ _. w.once i);
        unsent = λ i m a e. found_removed s.loans n m a (contains (out_then i) m ≡ false) e (λ apart old.
            at_each out p (out p ++ n ∷ []) (λ _ ns. contains ns m ≡ false) i
            (λ _. absent_in_append (out p) (n ∷ []) m (w.unsent p m a old)
            (absent_one n m (λ same. eqb-false m n apart (sym same))))
            (λ _. w.unsent i m a old));
        below = λ i m. at_each out p (out p ++ n ∷ []) (λ _ ns. contains ns m ≡ true → m < s.next_message) i
            (λ _ h. ⊎_elim (λ old. w.below p m old)
            (λ one. subst (λ k. k < s.next_message) (contains_one n m one) (v.loans n l held).below)
            (contains_in_append (out p) (n ∷ []) m h))
            (λ _. w.below i m);
        blocked = λ i z b new_i e. found_put s.publishers p pending
            (λ i z. p0 ≤ i → z.blocked ≡ Some b → BlockedInOrder p0 out_then got with_pending i b) i z e
            (λ _ _ f. subst (BlockedInOrder p0 out_then got with_pending p) (same_Some first_wait b f) pending_blocked)
            (λ apart old high f. let u : BlockedInOrder p0 out got s i b = w.blocked i z b high old f in record {
              before = u.before;
              last = put_at-other out p (out p ++ n ∷ []) i apart ∙ u.last;
              unserved = u.unserved;
            }) new_i;
      }

    module _ (s : State T U) (p n : ℕ) (x : Publisher) (l : Loan T U) (w : Ordered p0 n0 out got s) (v : IsWellFormed s)
        (new : p0 ≤ p) (held : s.loans n ≡ Some l) (present : s.publishers p ≡ Some x) where
      abbrev first_to_all : BlockedSend
      first_to_all =
          record { message = n; channel = 0; place = 0; ends = x.ends; retries = 0; count = 0; has_failed = false }

      abbrev longer : List ℕ
      longer = last_n (s.config).history_size (x.history ++ n ∷ [])

      abbrev all_pending : State T U
      all_pending = with_pending s p n x l w v new held present first_to_all refl longer
          (IsSubsequence-last_n (s.config).history_size (x.history ++ n ∷ []))

      -- the state in which it is delivered
      published_row : RowChanged all_pending (published s p n) p
          (record x { history = longer; blocked = Some first_to_all }) (record x { history = longer }) (s.mailboxes p)
      published_row = record {
        next_port = refl;
        next_message = refl;
        loans = λ _. refl;
        opened = λ _. refl;
        here = put_at-same s.publishers p _
            ∙ ap (option_map {T = Publisher} (λ (y : Publisher).
            record y { history = last_n (s.config).history_size (y.history ++ n ∷ []) })) present;
        history = refl;
        ends = refl;
        others = λ i apart. put_at-other s.publishers p _ i apart ∙ sym
            (put_at-other s.publishers p (Some (record x { history = longer; blocked = Some first_to_all })) i apart);
        row = refl;
        rows = λ _ _. refl;
      }

      -- A message is sent and delivered.
      pub publish_ordered : (environment : Environment) (s' : State T U) (result : SendResult)
          → Publish environment s p n s' result
          → Ordered p0 n0 (put_at out p (out p ++ n ∷ [])) got s'
      publish_ordered environment s' result h =
          by_option (Ordered p0 n0 (put_at out p (out p ++ n ∷ [])) got s') (s.publishers p) _ _ h (λ _ j. absurd j)
          (λ y found j.
          let same : y ≡ x = same_Some y x (sym found ∙ present) in
          deliver_ordered p0 n0 (put_at out p (out p ++ n ∷ [])) got environment all_pending (published s p n) p
          (record x { history = longer; blocked = Some first_to_all }) _ first_to_all
          (pending_ordered s p n x l w v new held present first_to_all refl longer
          (IsSubsequence-last_n (s.config).history_size (x.history ++ n ∷ [])))
          new (put_at-same s.publishers p (Some (record x { history = longer; blocked = Some first_to_all }))) refl
          published_row
          0 0 no_time 0 x.ends 0 false s' result (v.publishers p x present).ends_apart (λ q l. l)
          (subst (λ (r : Publisher). DeliverAndConclude environment (published s p n) p
          (sending n 0 0 0 r.ends 0 false) no_time s' result) same j))

      -- A message is delivered to one connection.
      pub connection_ordered : (environment : Environment) (channel place : ℕ) (s' : State T U) (result : SendResult)
          → DeliverAndConclude environment (with_loan s n None) p
          (sending n channel 0 place (take 1 (drop place x.ends)) 0 false) no_time s' result
          → Ordered p0 n0 (put_at out p (out p ++ n ∷ [])) got s'
      connection_ordered environment channel place s' result h =
          deliver_ordered p0 n0 (put_at out p (out p ++ n ∷ [])) got environment
          (with_pending s p n x l w v new held present first refl x.history more) (with_loan s n None) p waiting x first
          (pending_ordered s p n x l w v new held present first refl x.history more) new
          (put_at-same s.publishers p (Some waiting)) refl delivered_row
          channel 0 no_time place (take 1 (drop place x.ends)) 0 false s' result
          (injective_take 1 (drop place x.ends) (injective_drop place x.ends (v.publishers p x present).ends_apart))
          (λ q l. l) h
        where
          first : BlockedSend
          first = begun_send x n channel place

          waiting : Publisher
          waiting = record x { blocked = Some first }

          more : IsSubsequence x.history (x.history ++ n ∷ [])
          more = IsSubsequence-more (IsSubsequence-refl x.history) n

          delivered_row : RowChanged (with_pending s p n x l w v new held present first refl x.history more)
              (with_loan s n None) p waiting x (s.mailboxes p)
          delivered_row = record {
            next_port = refl;
            next_message = refl;
            loans = λ _. refl;
            opened = λ _. refl;
            here = present;
            history = refl;
            ends = refl;
            others = λ i apart. sym (put_at-other s.publishers p (Some waiting) i apart);
            row = refl;
            rows = λ _ _. refl;
          }
