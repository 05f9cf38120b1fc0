-- What was sent and what was received so far, against what waits in a state of a run.
use Rattle.std.proofs.Common.{◌≡◌, ℕ, ◌≤◌, ◌<◌, true, false, List, [], ◌∷◌, ◌++◌, refl, sym, ap, subst, ◌∙◌, arith, ◌⊎◌}
use Rattle.std.proofs.Common.{inl, ⊎_elim, None, Some}
use Rattle.std.proofs.lemmas.Option.{none-some, same_Some}
use Rattle.iox2_machine.specs.machine.Numbers.{contains, IsOnce}
use Rattle.iox2_machine.specs.machine.Mailbox.{Mailbox}
use Rattle.iox2_machine.specs.machine.Records.{Loan, Publisher, BlockedSend}
use Rattle.iox2_machine.specs.machine.State.{State, is_open}
use Rattle.iox2_machine.specs.machine.WellFormed.{LeadsTo}
use Rattle.iox2_laws.proofs.NumberLemmas.{absent_from}
use Rattle.iox2_commands.specs.Runs.{IsSubsequence}
use Rattle.iox2_commands.proofs.Subsequences.{IsSubsequence-nil, IsSubsequence-refl, IsSubsequence-trans}
use Rattle.iox2_commands.proofs.Subsequences.{IsSubsequence-behind, nil_part, nil_front}

module _ {T U : Type 0} where
  -- A blocked send's message was sent last, and those that it hasn't reached had only what was sent before.
  pub record BlockedInOrder (p0 : ℕ) (out : ℕ → List ℕ) (got : ℕ → ℕ → List ℕ) (s : State T U) (p : ℕ)
      (b : BlockedSend) : Type 0 where
    pub before : List ℕ
    pub last : out p ≡ before ++ b.message ∷ []
    pub unserved : (q : ℕ) → p0 ≤ q → LeadsTo b.ends q → IsSubsequence (got p q ++ (s.mailboxes p q).waiting) before

  -- In a run that began with the counters at p0 and n0, each publisher p sent `out p`, and each subscriber q received
  -- `got p q` from it. What was received, and behind it what waits, is a part of what was sent; old ports do nothing;
  -- the history is a part of what was sent; and an open subscriber to whom a publisher has no end received nothing from
  -- it.
  pub record Ordered (p0 n0 : ℕ) (out : ℕ → List ℕ) (got : ℕ → ℕ → List ℕ) (s : State T U) : Type 0 where
    pub ports : p0 ≤ s.next_port
    pub numbers : n0 ≤ s.next_message
    pub loans : (n : ℕ) (l : Loan T U) → s.loans n ≡ Some l → n0 ≤ n → p0 ≤ l.publisher
    pub order : (p q : ℕ) → p0 ≤ q → IsSubsequence (got p q ++ (s.mailboxes p q).waiting) (out p)
    pub silent : (p q : ℕ) → q < p0 → got p q ≡ []
    pub history : (p : ℕ) (x : Publisher) → p0 ≤ p → s.publishers p ≡ Some x → IsSubsequence x.history (out p)
    pub unconnected : (p q : ℕ) (x : Publisher) → p0 ≤ p → p0 ≤ q → s.publishers p ≡ Some x → is_open s q ≡ true
        → (LeadsTo x.ends q → ⊥) → got p q ≡ []
    pub unmade : (p : ℕ) → s.next_port ≤ p → out p ≡ []
    pub unmade_receiver : (p q : ℕ) → s.next_port ≤ q → got p q ≡ []
    pub once : (p : ℕ) → IsOnce (out p)
    pub unsent : (p n : ℕ) (l : Loan T U) → s.loans n ≡ Some l → contains (out p) n ≡ false
    pub below : (p n : ℕ) → contains (out p) n ≡ true → n < s.next_message
    pub blocked : (p : ℕ) (x : Publisher) (b : BlockedSend) → p0 ≤ p → s.publishers p ≡ Some x → x.blocked ≡ Some b
        → BlockedInOrder p0 out got s p b

  -- ---- steps in which nothing is sent or received

  -- A publisher that was there before: its history stays, it isn't blocked anew, and its ends to open subscribers stay.
  pub record SamePublisher (s' : State T U) (x x' : Publisher) : Type 0 where
    pub history : x'.history ≡ x.history
    pub blocked : (b : BlockedSend) → x'.blocked ≡ Some b → x.blocked ≡ Some b
    pub ends : (q : ℕ) → is_open s' q ≡ true → LeadsTo x.ends q → LeadsTo x'.ends q

  -- A publisher that wasn't there before: it has sent nothing.
  pub record NewPublisher (s : State T U) (p : ℕ) (x' : Publisher) : Type 0 where
    pub above : s.next_port ≤ p
    pub history : x'.history ≡ []
    pub blocked : x'.blocked ≡ None

  -- An unblocked publisher had no end to an open subscriber, and a part of its history waits there now.
  pub record FromHistory (p0 : ℕ) (s : State T U) (p q : ℕ) (ws : List ℕ) : Type 0 where
    pub publisher : Publisher
    pub present : s.publishers p ≡ Some publisher
    pub unblocked : publisher.blocked ≡ None
    pub is_new : p0 ≤ p
    pub opened : is_open s q ≡ true
    pub no_end : LeadsTo publisher.ends q → ⊥
    pub tail : IsSubsequence ws publisher.history

  abbrev pub WasPublisher : State T U → State T U → (p : ℕ) → Publisher → Type 0
  WasPublisher s s' p x' = ((x : Publisher) × (s.publishers p ≡ Some x) × SamePublisher s' x x') ⊎ NewPublisher s p x'

  abbrev pub WasLoan : (p0 : ℕ) → State T U → (n : ℕ) → Loan T U → Type 0
  WasLoan p0 s n l' = ((l : Loan T U) × (s.loans n ≡ Some l) × (l.publisher ≡ l'.publisher))
      ⊎ ((s.next_message ≤ n) × (p0 ≤ l'.publisher))

  abbrev pub WasOpen : State T U → (q : ℕ) → Type 0
  WasOpen s q = (is_open s q ≡ true) ⊎ (s.next_port ≤ q)

  abbrev pub Waited : (p0 : ℕ) → State T U → (p q : ℕ) → Mailbox → Type 0
  Waited p0 s p q box = IsSubsequence box.waiting (s.mailboxes p q).waiting ⊎ FromHistory p0 s p q box.waiting

  -- Nothing was sent or received: no more waits than before, but for a part of the history where an end was made.
  pub record Quiet (p0 : ℕ) (s s' : State T U) : Type 0 where
    pub next_port : s.next_port ≤ s'.next_port
    pub next_message : s.next_message ≤ s'.next_message
    pub loans : (n : ℕ) (l : Loan T U) → s'.loans n ≡ Some l → WasLoan p0 s n l
    pub publishers : (p : ℕ) (x : Publisher) → s'.publishers p ≡ Some x → WasPublisher s s' p x
    pub subscribers : (q : ℕ) → is_open s' q ≡ true → WasOpen s q
    pub mailboxes : (p q : ℕ) → p0 ≤ q → Waited p0 s p q (s'.mailboxes p q)

  module _ (p0 n0 : ℕ) (out : ℕ → List ℕ) (got : ℕ → ℕ → List ℕ) (s s' : State T U) (w : Ordered p0 n0 out got s)
      (k : Quiet p0 s s') where
    still_in_order : (p q : ℕ) → p0 ≤ q → Waited p0 s p q (s'.mailboxes p q)
        → IsSubsequence (got p q ++ (s'.mailboxes p q).waiting) (out p)
    still_in_order p q new waited =
        ⊎_elim
        (λ fewer. IsSubsequence-behind (got p q) (s'.mailboxes p q).waiting (s.mailboxes p q).waiting (out p) fewer
        (w.order p q new))
        (λ (from : FromHistory p0 s p q (s'.mailboxes p q).waiting).
        let nothing : got p q ≡ [] =
        w.unconnected p q from.publisher from.is_new new from.present from.opened from.no_end in
        subst (λ g. IsSubsequence (g ++ (s'.mailboxes p q).waiting) (out p)) (sym nothing)
        (IsSubsequence-trans from.tail (w.history p from.publisher from.is_new from.present)))
        waited

    still_history : (p : ℕ) (x' : Publisher) → p0 ≤ p → WasPublisher s s' p x' → IsSubsequence x'.history (out p)
    still_history p x' new was =
        ⊎_elim
        (λ (old : (x : Publisher) × (s.publishers p ≡ Some x) × SamePublisher s' x x').
        subst (λ h. IsSubsequence h (out p)) (sym (old.2).history) (w.history p old.0 new old.1))
        (λ (fresh : NewPublisher s p x').
        subst (λ h. IsSubsequence h (out p)) (sym fresh.history) (IsSubsequence-nil (out p)))
        was

    -- a publisher that wasn't there had nothing that could be received
    nothing_from_new : (p q : ℕ) → s.next_port ≤ p → p0 ≤ q → got p q ≡ []
    nothing_from_new p q above new =
        nil_front (got p q) (s.mailboxes p q).waiting
        (nil_part _ (subst (IsSubsequence (got p q ++ (s.mailboxes p q).waiting)) (w.unmade p above) (w.order p q new)))

    still_unconnected : (p q : ℕ) (x' : Publisher) → p0 ≤ p → p0 ≤ q → WasPublisher s s' p x' → is_open s' q ≡ true
        → (LeadsTo x'.ends q → ⊥) → got p q ≡ []
    still_unconnected p q x' new new_q was opened no_end =
        ⊎_elim
        (λ (old : (x : Publisher) × (s.publishers p ≡ Some x) × SamePublisher s' x x').
        ⊎_elim
        (λ was_open. w.unconnected p q old.0 new new_q old.1 was_open (λ l. no_end ((old.2).ends q opened l)))
        (λ made. w.unmade_receiver p q made)
        (k.subscribers q opened))
        (λ (fresh : NewPublisher s p x'). nothing_from_new p q fresh.above new_q)
        was

    still_blocked : (p : ℕ) (x' : Publisher) (b : BlockedSend) → p0 ≤ p → WasPublisher s s' p x' → x'.blocked ≡ Some b
        → BlockedInOrder p0 out got s' p b
    still_blocked p x' b new was e =
        ⊎_elim
        (λ (old : (x : Publisher) × (s.publishers p ≡ Some x) × SamePublisher s' x x').
        let was_blocked : (old.0).blocked ≡ Some b = (old.2).blocked b e in
        let v : BlockedInOrder p0 out got s p b = w.blocked p old.0 b new old.1 was_blocked in
        record {
          before = v.before;
          last = v.last;
          unserved = λ q new_q l. ⊎_elim
              (λ fewer. IsSubsequence-behind (got p q) (s'.mailboxes p q).waiting
              (s.mailboxes p q).waiting v.before fewer (v.unserved q new_q l))
              (λ (from : FromHistory p0 s p q (s'.mailboxes p q).waiting).
              let same : from.publisher ≡ old.0 = same_Some from.publisher old.0 (sym from.present ∙ old.1) in
              absurd (none-some b (sym from.unblocked ∙ ap (λ (x : Publisher). x.blocked) same ∙ was_blocked)))
              (k.mailboxes p q new_q);
        })
        (λ (fresh : NewPublisher s p x'). absurd (none-some b (sym fresh.blocked ∙ e)))
        was

    -- What holds before a step in which nothing is sent or received holds after it.
    pub quiet_keeps : Ordered p0 n0 out got s'
    quiet_keeps = record {
      ports = omega (arith, w.ports, k.next_port);
      numbers = omega (arith, w.numbers, k.next_message);
      loans = λ n l e high. ⊎_elim
          (λ (old : (l₀ : Loan T U) × (s.loans n ≡ Some l₀) × (l₀.publisher ≡ l.publisher)).
          subst (λ i. p0 ≤ i) old.2 (w.loans n old.0 old.1 high))
          (λ new. new.1) (k.loans n l e);
      order = λ p q new. still_in_order p q new (k.mailboxes p q new);
      silent = w.silent;
      history = λ p x new e. still_history p x new (k.publishers p x e);
      unconnected = λ p q x new new_q e. still_unconnected p q x new new_q (k.publishers p x e);
      unmade = λ p high. w.unmade p (omega (arith, k.next_port));
      unmade_receiver = λ p q high. w.unmade_receiver p q (omega (arith, k.next_port));
      once = w.once;
      unsent = λ p n l e. ⊎_elim
          (λ (old : (l₀ : Loan T U) × (s.loans n ≡ Some l₀) × (l₀.publisher ≡ l.publisher)). w.unsent p n old.0 old.1)
          (λ (new : (s.next_message ≤ n) × (p0 ≤ l.publisher)). absent_from (out p) n (λ h.
          let low : n < s.next_message = w.below p n h in
          let high : s.next_message ≤ n = new.0 in absurd (omega arith)))
          (k.loans n l e);
      below = λ p n h. omega (arith, w.below p n h, k.next_message);
      blocked = λ p x b new e. still_blocked p x b new (k.publishers p x e);
    }

  -- ---- what stays

  -- A publisher that stays as it was.
  pub same_publisher : (s s' : State T U) (p : ℕ) (x : Publisher) → s.publishers p ≡ Some x → WasPublisher s s' p x
  same_publisher s s' p x e = inl (x, e, record { history = refl; blocked = λ b f. f; ends = λ q _ l. l })

  -- A publisher that changes neither its history nor its blocked send nor its ends.
  pub alike_publisher : (s s' : State T U) (p : ℕ) (x x' : Publisher) → s.publishers p ≡ Some x → x'.history ≡ x.history
      → x'.blocked ≡ x.blocked
      → x'.ends ≡ x.ends → WasPublisher s s' p x'
  alike_publisher s s' p x x' e history blocked ends =
      inl (
        x,
        e,
        record {
          history = history;
          blocked = λ b f. sym blocked ∙ f;
          ends = λ q _ l. subst (λ v. LeadsTo v q) (sym ends) l;
        },
      )

  -- A loan that stays as it was.
  pub same_loan : (p0 : ℕ) (s : State T U) (n : ℕ) (l : Loan T U) → s.loans n ≡ Some l → WasLoan p0 s n l
  same_loan p0 s n l e = inl (l, e, refl)

  -- A mailbox in which the same waits.
  pub same_waiting : (p0 : ℕ) (s : State T U) (p q : ℕ) (box : Mailbox) → box.waiting ≡ (s.mailboxes p q).waiting
      → Waited p0 s p q box
  same_waiting p0 s p q box e = inl (subst (IsSubsequence box.waiting) e (IsSubsequence-refl box.waiting))
