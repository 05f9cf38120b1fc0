-- What a position of a run's table names.
use Rattle.std.proofs.Common.{◌≡◌, ℕ, zero, suc, Bool, [], ◌∷◌, true, false, cond, List, length, refl, sym, ap, ◌∙◌}
use Rattle.std.proofs.Common.{Option, None, Some, is_none, is_some, arith}
use Rattle.std.specs.Prelude.{◌==◌, slice_get}
use Rattle.std.specs.Option.{option_and_then, option_map, option_map_or}
use Rattle.std.proofs.lemmas.Bool.{true≢false, ne_eqb, eq-eqb}
use Rattle.std.proofs.lemmas.Option.{none-some, same_Some}
use Rattle.iox2_machine.specs.machine.Mailbox.{is_borrowed}
use Rattle.iox2_machine.specs.machine.Records.{Loan, Publisher, Subscriber, BlockedSend}
use Rattle.iox2_machine.specs.machine.State.{State, is_blocked}
use Rattle.iox2_commands.specs.Outcomes.{Handle, No_handle, Publisher_handle, Subscriber_handle, Loan_handle}
use Rattle.iox2_commands.specs.Outcomes.{Blocked_handle, Sample_handle, Event}
use Rattle.iox2_machine.specs.machine.SingleCalls.{HoldsBlocked}
use Rattle.iox2_commands.specs.Step.{publisher_at, unblocked_at, subscriber_at, loan_at, unwritten_at, written_at}
use Rattle.iox2_commands.specs.Step.{sendable_at, blocked_at, sample_at}
use Rattle.iox2_runs.specs.Tables.{TableEntry, No_entry, Publisher_entry, Subscriber_entry, Unwritten_entry}
use Rattle.iox2_runs.specs.Tables.{Written_entry, Blocked_entry, Sample_entry, IsUnblockedPort, HasLoan, HasNoBox}
use Rattle.iox2_runs.specs.Tables.{IsEntryOf, IsTable}

-- What kind of thing the entry names.
abbrev pub is_publisher_entry : TableEntry → Bool
is_publisher_entry (Publisher_entry service p) = true
is_publisher_entry _ = false

abbrev pub is_subscriber_entry : TableEntry → Bool
is_subscriber_entry (Subscriber_entry service q) = true
is_subscriber_entry _ = false

abbrev pub is_unwritten_entry : TableEntry → Bool
is_unwritten_entry (Unwritten_entry service p n) = true
is_unwritten_entry _ = false

abbrev pub is_written_entry : TableEntry → Bool
is_written_entry (Written_entry service p n) = true
is_written_entry _ = false

abbrev pub is_blocked_entry : TableEntry → Bool
is_blocked_entry (Blocked_entry service p n) = true
is_blocked_entry _ = false

abbrev pub is_sample_entry : TableEntry → Bool
is_sample_entry (Sample_entry service p q n) = true
is_sample_entry _ = false

abbrev pub is_loan_entry : TableEntry → Bool
is_loan_entry (Unwritten_entry service p n) = true
is_loan_entry (Written_entry service p n) = true
is_loan_entry _ = false

-- the position is past the end, or the entry there is of another kind
abbrev pub Lacks : (kind : TableEntry → Bool) → List TableEntry → (of : ℕ) → Type 0
Lacks kind table of = option_map_or kind (slice_get table of) false ≡ false

-- of two lists of one length, one has an element where the other has one
matched : {A B : Type 0} (xs : List A) (ys : List B) (i : ℕ) (x : A) → length xs ≡ length ys → slice_get xs i ≡ Some x
    → (y : B) × (slice_get ys i ≡ Some y)
matched [] ys i x e at = absurd (none-some x at)
matched (x0 ∷ xs) [] i x e at = absurd (omega arith)
matched (x0 ∷ xs) (y ∷ ys) zero x e at = (y, refl)
matched (x0 ∷ xs) (y ∷ ys) (suc i) x e at = matched xs ys i x (omega arith) at

-- and none where the other has none
unmatched : {A B : Type 0} (xs : List A) (ys : List B) (i : ℕ) → length xs ≡ length ys → slice_get xs i ≡ None
    → slice_get ys i ≡ None
unmatched [] [] i e at = refl
unmatched [] (y ∷ ys) i e at = absurd (omega arith)
unmatched (x ∷ xs) [] i e at = refl
unmatched (x ∷ xs) (y ∷ ys) zero e at = absurd (none-some x (sym at))
unmatched (x ∷ xs) (y ∷ ys) (suc i) e at = unmatched xs ys i (omega arith) at

module _ {T U : Type 0} (s : State T U) where
  -- ---- of one handle, nothing of a kind

  -- what a publisher's handle names
  abbrev PublisherOf : Handle → Option (ℕ × Publisher)
  PublisherOf h = elim (Some h)
      [ Some (Publisher_handle p) ↦ option_map {U = ℕ × Publisher} (λ x. (p, x)) (s.publishers p) | _ ↦ None ]

  -- what a subscriber's handle names
  abbrev SubscriberOf : Handle → Option (ℕ × Subscriber)
  SubscriberOf h =
      elim (Some h) [
        | Some (Subscriber_handle q) ↦
            option_and_then {U = ℕ × Subscriber} (λ y. cond y.is_open (Some (q, y)) None) (s.subscribers q)
        | _ ↦ None
      ]

  no_publisher : (h : Handle) (e : TableEntry) → IsEntryOf s h e → is_publisher_entry e ≡ false
      → PublisherOf h ≡ None
  no_publisher (Publisher_handle p) No_entry k other = ap (option_map {U = ℕ × Publisher} (λ x. (p, x))) k
  no_publisher (Publisher_handle p) (Publisher_entry service p') k other = absurd (true≢false other)
  no_publisher (Publisher_handle p) (Subscriber_entry service q) k other =
      let clash : Publisher_handle p ≡ Subscriber_handle q = k.1 in absurd (cc)
  no_publisher (Publisher_handle p) (Unwritten_entry service p' n) k other =
      let clash : Publisher_handle p ≡ Loan_handle n = k.1 in absurd (cc)
  no_publisher (Publisher_handle p) (Written_entry service p' n) k other =
      let clash : Publisher_handle p ≡ Loan_handle n = k.1 in absurd (cc)
  no_publisher (Publisher_handle p) (Blocked_entry service p' n) k other =
      let clash : Publisher_handle p ≡ Blocked_handle p' n = k.1 in absurd (cc)
  no_publisher (Publisher_handle p) (Sample_entry service p' q n) k other =
      let clash : Publisher_handle p ≡ Sample_handle p' q n = k.1 in absurd (cc)
  no_publisher No_handle e k other = refl
  no_publisher (Subscriber_handle q) e k other = refl
  no_publisher (Loan_handle n) e k other = refl
  no_publisher (Blocked_handle p n) e k other = refl
  no_publisher (Sample_handle p q n) e k other = refl

  no_subscriber : (h : Handle) (e : TableEntry) → IsEntryOf s h e → is_subscriber_entry e ≡ false
      → SubscriberOf h ≡ None
  no_subscriber (Subscriber_handle q) No_entry k other = by (s.subscribers q) refl where
    by : (o : Option Subscriber) → s.subscribers q ≡ o
        → option_and_then {U = ℕ × Subscriber} (λ y. cond y.is_open (Some (q, y)) None) o ≡ None
    by None e = refl
    by (Some y) e = ap (λ (b : Bool). cond {A = Option (ℕ × Subscriber)} b (Some (q, y)) None) (k y e)
  no_subscriber (Subscriber_handle q) (Publisher_entry service p) k other =
      let clash : Subscriber_handle q ≡ Publisher_handle p = k.1 in absurd (cc)
  no_subscriber (Subscriber_handle q) (Subscriber_entry service q') k other = absurd (true≢false other)
  no_subscriber (Subscriber_handle q) (Unwritten_entry service p n) k other =
      let clash : Subscriber_handle q ≡ Loan_handle n = k.1 in absurd (cc)
  no_subscriber (Subscriber_handle q) (Written_entry service p n) k other =
      let clash : Subscriber_handle q ≡ Loan_handle n = k.1 in absurd (cc)
  no_subscriber (Subscriber_handle q) (Blocked_entry service p n) k other =
      let clash : Subscriber_handle q ≡ Blocked_handle p n = k.1 in absurd (cc)
  no_subscriber (Subscriber_handle q) (Sample_entry service p q' n) k other =
      let clash : Subscriber_handle q ≡ Sample_handle p q' n = k.1 in absurd (cc)
  no_subscriber No_handle e k other = refl
  no_subscriber (Publisher_handle p) e k other = refl
  no_subscriber (Loan_handle n) e k other = refl
  no_subscriber (Blocked_handle p n) e k other = refl
  no_subscriber (Sample_handle p q n) e k other = refl

  -- what a loan's handle names
  abbrev LoanOf : Handle → Option (ℕ × Loan T U)
  LoanOf h = elim (Some h) [ Some (Loan_handle n) ↦ option_map {U = ℕ × Loan T U} (λ l. (n, l)) (s.loans n) | _ ↦ None ]

  abbrev IfUnwritten : Option (ℕ × Loan T U) → Option (ℕ × Loan T U)
  IfUnwritten o = option_and_then (λ named. cond named.1.is_written None (Some named)) o

  abbrev IfWritten : Option (ℕ × Loan T U) → Option (ℕ × Loan T U)
  IfWritten o = option_and_then (λ named. cond named.1.is_written (Some named) None) o

  abbrev if_unblocked : Option (ℕ × Loan T U) → Option (ℕ × Loan T U)
  if_unblocked o = option_and_then (λ named. cond (is_blocked s named.1.publisher) None (Some named)) o

  -- the loan under that number is as its entry says
  loan_of : (n n' p : ℕ) (written : Bool) → Loan_handle n ≡ Loan_handle n' → HasLoan s p n' written
      → (l : Loan T U) × (LoanOf (Loan_handle n) ≡ Some (n', l)) × (s.loans n' ≡ Some l) × (l.publisher ≡ p)
      × (l.is_written ≡ written)
  loan_of n n' p written e h =
      let same : n ≡ n' = cc in
      ((h.0).0, rw same (ap (option_map {U = ℕ × Loan T U} (λ l. (n', l))) (h.0).1), (h.0).1, (h.0).2, (h.0).3)

  no_unwritten : (h : Handle) (e : TableEntry) → IsEntryOf s h e → is_unwritten_entry e ≡ false
      → IfUnwritten (LoanOf h) ≡ None
  no_unwritten (Loan_handle n) No_entry k other =
      ap (λ o. IfUnwritten (option_map {U = ℕ × Loan T U} (λ l. (n, l)) o)) k
  no_unwritten (Loan_handle n) (Publisher_entry service p) k other =
      let clash : Loan_handle n ≡ Publisher_handle p = k.1 in absurd (cc)
  no_unwritten (Loan_handle n) (Subscriber_entry service q) k other =
      let clash : Loan_handle n ≡ Subscriber_handle q = k.1 in absurd (cc)
  no_unwritten (Loan_handle n) (Unwritten_entry service p n') k other = absurd (true≢false other)
  no_unwritten (Loan_handle n) (Written_entry service p n') k other =
      let v = loan_of n n' p true k.1 k.2 in ap IfUnwritten v.1 ∙ ap (λ (b : Bool). cond b None (Some (n', v.0))) v.4
  no_unwritten (Loan_handle n) (Blocked_entry service p n') k other =
      let clash : Loan_handle n ≡ Blocked_handle p n' = k.1 in absurd (cc)
  no_unwritten (Loan_handle n) (Sample_entry service p q n') k other =
      let clash : Loan_handle n ≡ Sample_handle p q n' = k.1 in absurd (cc)
  no_unwritten No_handle e k other = refl
  no_unwritten (Publisher_handle p) e k other = refl
  no_unwritten (Subscriber_handle q) e k other = refl
  no_unwritten (Blocked_handle p n) e k other = refl
  no_unwritten (Sample_handle p q n) e k other = refl

  no_written : (h : Handle) (e : TableEntry) → IsEntryOf s h e → is_written_entry e ≡ false
      → IfWritten (LoanOf h) ≡ None
  no_written (Loan_handle n) No_entry k other = ap (λ o. IfWritten (option_map {U = ℕ × Loan T U} (λ l. (n, l)) o)) k
  no_written (Loan_handle n) (Publisher_entry service p) k other =
      let clash : Loan_handle n ≡ Publisher_handle p = k.1 in absurd (cc)
  no_written (Loan_handle n) (Subscriber_entry service q) k other =
      let clash : Loan_handle n ≡ Subscriber_handle q = k.1 in absurd (cc)
  no_written (Loan_handle n) (Unwritten_entry service p n') k other =
      let v = loan_of n n' p false k.1 k.2 in ap IfWritten v.1 ∙ ap (λ (b : Bool). cond b (Some (n', v.0)) None) v.4
  no_written (Loan_handle n) (Written_entry service p n') k other = absurd (true≢false other)
  no_written (Loan_handle n) (Blocked_entry service p n') k other =
      let clash : Loan_handle n ≡ Blocked_handle p n' = k.1 in absurd (cc)
  no_written (Loan_handle n) (Sample_entry service p q n') k other =
      let clash : Loan_handle n ≡ Sample_handle p q n' = k.1 in absurd (cc)
  no_written No_handle e k other = refl
  no_written (Publisher_handle p) e k other = refl
  no_written (Subscriber_handle q) e k other = refl
  no_written (Blocked_handle p n) e k other = refl
  no_written (Sample_handle p q n) e k other = refl

  no_loan : (h : Handle) (e : TableEntry) → IsEntryOf s h e → is_loan_entry e ≡ false → LoanOf h ≡ None
  no_loan (Loan_handle n) No_entry k other = ap (option_map {U = ℕ × Loan T U} (λ l. (n, l))) k
  no_loan (Loan_handle n) (Publisher_entry service p) k other = let clash : Loan_handle n ≡ Publisher_handle p = k.1 in
      absurd (cc)
  no_loan (Loan_handle n) (Subscriber_entry service q) k other =
      let clash : Loan_handle n ≡ Subscriber_handle q = k.1 in absurd (cc)
  no_loan (Loan_handle n) (Unwritten_entry service p n') k other = absurd (true≢false other)
  no_loan (Loan_handle n) (Written_entry service p n') k other = absurd (true≢false other)
  no_loan (Loan_handle n) (Blocked_entry service p n') k other =
      let clash : Loan_handle n ≡ Blocked_handle p n' = k.1 in absurd (cc)
  no_loan (Loan_handle n) (Sample_entry service p q n') k other =
      let clash : Loan_handle n ≡ Sample_handle p q n' = k.1 in absurd (cc)
  no_loan No_handle e k other = refl
  no_loan (Publisher_handle p) e k other = refl
  no_loan (Subscriber_handle q) e k other = refl
  no_loan (Blocked_handle p n) e k other = refl
  no_loan (Sample_handle p q n) e k other = refl

  -- what a blocked send's handle names
  abbrev BlockedOf : Handle → Option (ℕ × BlockedSend)
  BlockedOf h = elim (Some h) [
    | Some (Blocked_handle p n) ↦
        option_and_then {U = ℕ × BlockedSend} (λ x.
        option_and_then {U = ℕ × BlockedSend} (λ b. cond (b.message == n) (Some (p, b)) None) x.blocked)
        (s.publishers p)
    | _ ↦ None
  ]

  -- it names nothing where no such send is blocked
  none_blocked : (p n : ℕ) → (HoldsBlocked s p n → ⊥) → BlockedOf (Blocked_handle p n) ≡ None
  none_blocked p n none = by (s.publishers p) refl where
    its : (x : Publisher) → s.publishers p ≡ Some x → (o : Option BlockedSend) → x.blocked ≡ o
        → option_and_then {U = ℕ × BlockedSend} (λ b. cond (b.message == n) (Some (p, b)) None) o ≡ None
    its x there None e = refl
    its x there (Some b) e = ap (λ (t : Bool). cond {A = Option (ℕ × BlockedSend)} t (Some (p, b)) None)
        (ne_eqb b.message n (λ same. none (x, b, there, e, same)))

    by : (o : Option Publisher) → s.publishers p ≡ o
        → option_and_then {U = ℕ × BlockedSend} (λ x.
        option_and_then {U = ℕ × BlockedSend} (λ b. cond (b.message == n) (Some (p, b)) None) x.blocked) o ≡ None
    by None e = refl
    by (Some x) e = its x e x.blocked refl

  no_blocked : (h : Handle) (e : TableEntry) → IsEntryOf s h e → is_blocked_entry e ≡ false → BlockedOf h ≡ None
  no_blocked (Blocked_handle p n) No_entry k other = none_blocked p n k
  no_blocked (Blocked_handle p n) (Publisher_entry service p') k other =
      let clash : Blocked_handle p n ≡ Publisher_handle p' = k.1 in absurd (cc)
  no_blocked (Blocked_handle p n) (Subscriber_entry service q') k other =
      let clash : Blocked_handle p n ≡ Subscriber_handle q' = k.1 in absurd (cc)
  no_blocked (Blocked_handle p n) (Unwritten_entry service p' n') k other =
      let clash : Blocked_handle p n ≡ Loan_handle n' = k.1 in absurd (cc)
  no_blocked (Blocked_handle p n) (Written_entry service p' n') k other =
      let clash : Blocked_handle p n ≡ Loan_handle n' = k.1 in absurd (cc)
  no_blocked (Blocked_handle p n) (Blocked_entry service p' n') k other = absurd (true≢false other)
  no_blocked (Blocked_handle p n) (Sample_entry service p' q' n') k other =
      let clash : Blocked_handle p n ≡ Sample_handle p' q' n' = k.1 in absurd (cc)
  no_blocked No_handle e k other = refl
  no_blocked (Publisher_handle p) e k other = refl
  no_blocked (Subscriber_handle q) e k other = refl
  no_blocked (Loan_handle n) e k other = refl
  no_blocked (Sample_handle p q n) e k other = refl

  -- what a sample's handle names
  abbrev SampleOf : Handle → Option (ℕ × ℕ × ℕ)
  SampleOf h = elim (Some h)
      [ Some (Sample_handle p q n) ↦ cond (is_borrowed n (s.mailboxes p q)) (Some (p, q, n)) None | _ ↦ None ]

  no_sample : (h : Handle) (e : TableEntry) → IsEntryOf s h e → is_sample_entry e ≡ false → SampleOf h ≡ None
  no_sample (Sample_handle p q n) No_entry k other = ap (λ (b : Bool). cond b (Some (p, q, n)) None) k
  no_sample (Sample_handle p q n) (Publisher_entry service p') k other =
      let clash : Sample_handle p q n ≡ Publisher_handle p' = k.1 in absurd (cc)
  no_sample (Sample_handle p q n) (Subscriber_entry service q') k other =
      let clash : Sample_handle p q n ≡ Subscriber_handle q' = k.1 in absurd (cc)
  no_sample (Sample_handle p q n) (Unwritten_entry service p' n') k other =
      let clash : Sample_handle p q n ≡ Loan_handle n' = k.1 in absurd (cc)
  no_sample (Sample_handle p q n) (Written_entry service p' n') k other =
      let clash : Sample_handle p q n ≡ Loan_handle n' = k.1 in absurd (cc)
  no_sample (Sample_handle p q n) (Blocked_entry service p' n') k other =
      let clash : Sample_handle p q n ≡ Blocked_handle p' n' = k.1 in absurd (cc)
  no_sample (Sample_handle p q n) (Sample_entry service p' q' n') k other = absurd (true≢false other)
  no_sample No_handle e k other = refl
  no_sample (Publisher_handle p) e k other = refl
  no_sample (Subscriber_handle q) e k other = refl
  no_sample (Loan_handle n) e k other = refl
  no_sample (Blocked_handle p n) e k other = refl

  -- ---- at a position

  module _ (handles : List Handle) (events : List (Event T U)) (table : List TableEntry)
      (w : IsTable s handles events table) (of : ℕ) where
    -- the entry there is that of the handle there
    pub handle_of : (e : TableEntry) → slice_get table of ≡ Some e
        → (h : Handle) × (slice_get handles of ≡ Some h) × IsEntryOf s h e
    handle_of e at = let v = matched table handles of e w.count at in (v.0, v.1, w.entries of v.0 e v.1 at)

    -- the publisher of an entry has no box
    pub publisher_unboxed : (service p : ℕ) → slice_get table of ≡ Some (Publisher_entry service p) → HasNoBox s p
    publisher_unboxed service p at = let v = handle_of (Publisher_entry service p) at in (v.2).4

    -- a look-up that finds nothing at any handle with another entry finds nothing here
    lacks : {A : Type 0} (look : Option Handle → Option A) → look None ≡ None → (kind : TableEntry → Bool)
        → ((h : Handle) (e : TableEntry) → IsEntryOf s h e → kind e ≡ false → look (Some h) ≡ None)
        → Lacks kind table of → look (slice_get handles of) ≡ None
    lacks {A} look none kind each absent = by (slice_get table of) refl where
      by : (o : Option TableEntry) → slice_get table of ≡ o → look (slice_get handles of) ≡ None
      by None past = ap look (unmatched table handles of w.count past) ∙ none
      by (Some e) at = let v = handle_of e at in
          ap look v.1 ∙ each v.0 e v.2 (sym (ap (λ o. option_map_or kind o false) at) ∙ absent)

    pub lacks_any_publisher : Lacks is_publisher_entry table of → publisher_at s handles of ≡ None
    lacks_any_publisher absent =
        lacks (λ (o : Option Handle). elim o [
          | Some (Publisher_handle p) ↦
              option_map {U = ℕ × Publisher} (λ x. (p, x)) (s.publishers p)
          | _ ↦ None
        ]) refl is_publisher_entry no_publisher absent

    pub lacks_publisher : Lacks is_publisher_entry table of → unblocked_at s handles of ≡ None
    lacks_publisher absent =
        ap (λ (o : Option (ℕ × Publisher)).
        option_and_then (λ named. cond (is_none named.1.blocked) (Some named) None) o) (lacks_any_publisher absent)

    pub lacks_subscriber : Lacks is_subscriber_entry table of → subscriber_at s handles of ≡ None
    lacks_subscriber absent =
        lacks (λ (o : Option Handle). elim o [
          | Some (Subscriber_handle q) ↦
              option_and_then {U = ℕ × Subscriber} (λ y. cond y.is_open (Some (q, y)) None) (s.subscribers q)
          | _ ↦ None
        ])
        refl is_subscriber_entry no_subscriber absent

    -- what a loan's position names
    abbrev loan_named : Option Handle → Option (ℕ × Loan T U)
    loan_named o = elim o [ Some (Loan_handle n) ↦ option_map {U = ℕ × Loan T U} (λ l. (n, l)) (s.loans n) | _ ↦ None ]

    pub lacks_unwritten : Lacks is_unwritten_entry table of → unwritten_at s handles of ≡ None
    lacks_unwritten absent =
        lacks (λ (o : Option Handle). IfUnwritten (loan_named o)) refl is_unwritten_entry no_unwritten absent

    pub lacks_written : Lacks is_written_entry table of → written_at s handles of ≡ None
    lacks_written absent =
        lacks (λ (o : Option Handle). IfWritten (loan_named o)) refl is_written_entry no_written absent

    pub lacks_sample : Lacks is_sample_entry table of → sample_at s handles of ≡ None
    lacks_sample absent =
        lacks (λ (o : Option Handle). elim o [
          | Some (Sample_handle p q n) ↦
              cond (is_borrowed n (s.mailboxes p q)) (Some (p, q, n)) None
          | _ ↦ None
        ]) refl is_sample_entry no_sample absent

    pub lacks_loan : Lacks is_loan_entry table of → loan_at s handles of ≡ None
    lacks_loan absent = lacks loan_named refl is_loan_entry no_loan absent

    -- ---- what is there

    -- what a blocked send's position names
    abbrev blocked_named : Option Handle → Option (ℕ × BlockedSend)
    blocked_named o = elim o [
      | Some (Blocked_handle p n) ↦
          option_and_then {U = ℕ × BlockedSend} (λ x.
          option_and_then {U = ℕ × BlockedSend} (λ b. cond (b.message == n) (Some (p, b)) None) x.blocked)
          (s.publishers p)
      | _ ↦ None
    ]

    abbrev publisher_named : Option Handle → Option (ℕ × Publisher)
    publisher_named o =
        elim o [ Some (Publisher_handle p) ↦ option_map {U = ℕ × Publisher} (λ x. (p, x)) (s.publishers p) | _ ↦ None ]

    abbrev if_free : Option (ℕ × Publisher) → Option (ℕ × Publisher)
    if_free o = option_and_then (λ named. cond (is_none named.1.blocked) (Some named) None) o

    pub has_publisher : (service p : ℕ) → slice_get table of ≡ Some (Publisher_entry service p)
        → (x : Publisher) × (publisher_at s handles of ≡ Some (p, x)) × (s.publishers p ≡ Some x)
    has_publisher service p at =
        let v = handle_of (Publisher_entry service p) at in (
          (v.2).2,
          ap publisher_named (v.1 ∙ ap Some (v.2).1) ∙ ap (option_map {U = ℕ × Publisher} (λ x. (p, x))) (v.2).3,
          (v.2).3,
        )

    -- it is named where no send of it is blocked
    pub has_free_publisher : (service p : ℕ) → slice_get table of ≡ Some (Publisher_entry service p)
        → IsUnblockedPort s p
        → (x : Publisher) × (unblocked_at s handles of ≡ Some (p, x)) × (s.publishers p ≡ Some x)
    has_free_publisher service p at free =
        let found = has_publisher service p at in (
          found.0,
          ap if_free found.1 ∙ ap (λ (b : Option BlockedSend). cond (is_none b) (Some (p, found.0)) None)
              (free found.0 found.2),
          found.2,
        )

    -- and not where one is
    pub waiting_publisher : (service p : ℕ) → slice_get table of ≡ Some (Publisher_entry service p)
        → (IsUnblockedPort s p → ⊥) → unblocked_at s handles of ≡ None
    waiting_publisher service p at waits =
        let found = has_publisher service p at in
        ap if_free found.1 ∙ by found.0 found.2 (found.0).blocked refl
      where
        by : (x : Publisher) → s.publishers p ≡ Some x → (o : Option BlockedSend) → x.blocked ≡ o
            → cond {A = Option (ℕ × Publisher)} (is_none o) (Some (p, x)) None ≡ None
        by x there None e =
            absurd (waits (λ y at_y. ap (λ (v : Publisher). v.blocked) (same_Some y x (sym at_y ∙ there)) ∙ e))
        by x there (Some b) e = refl

    abbrev subscriber_named : Option Handle → Option (ℕ × Subscriber)
    subscriber_named o = elim o [
      | Some (Subscriber_handle q) ↦
          option_and_then {U = ℕ × Subscriber} (λ y. cond y.is_open (Some (q, y)) None) (s.subscribers q)
      | _ ↦ None
    ]

    pub has_subscriber : (service q : ℕ) → slice_get table of ≡ Some (Subscriber_entry service q)
        → (y : Subscriber) × (subscriber_at s handles of ≡ Some (q, y)) × (s.subscribers q ≡ Some y)
        × (y.is_open ≡ true)
    has_subscriber service q at =
        let v = handle_of (Subscriber_entry service q) at in (
          (v.2).2,
          ap subscriber_named (v.1 ∙ ap Some (v.2).1)
              ∙ ap (λ (o : Option Subscriber).
              option_and_then {U = ℕ × Subscriber} (λ y. cond y.is_open (Some (q, y)) None) o) (v.2).3
              ∙ ap (λ (b : Bool). cond {A = Option (ℕ × Subscriber)} b (Some (q, (v.2).2)) None) (v.2).4,
          (v.2).3,
          (v.2).4,
        )

    -- a publisher that isn't there waits for nobody
    not_blocked : (p : ℕ) → IsUnblockedPort s p → is_blocked s p ≡ false
    not_blocked p unblocked = by (s.publishers p) refl where
      by : (o : Option Publisher) → s.publishers p ≡ o
          → option_map_or (λ (x : Publisher). is_some x.blocked) o false ≡ false
      by None e = refl
      by (Some x) e = ap (λ (b : Option BlockedSend). is_some b) (unblocked x e)

    loan_there : (n p : ℕ) (written : Bool) (h : Handle) → slice_get handles of ≡ Some h → h ≡ Loan_handle n
        → (k : HasLoan s p n written)
        → loan_at s handles of ≡ Some (n, (k.0).0)
    loan_there n p written h at is k =
        ap loan_named (at ∙ ap Some is) ∙ ap (option_map {U = ℕ × Loan T U} (λ l. (n, l))) (k.0).1

    pub has_unwritten : (service p n : ℕ) → slice_get table of ≡ Some (Unwritten_entry service p n)
        → (l : Loan T U) × (unwritten_at s handles of ≡ Some (n, l)) × (loan_at s handles of ≡ Some (n, l))
        × (s.loans n ≡ Some l) × (l.publisher ≡ p)
    has_unwritten service p n at =
        let v = handle_of (Unwritten_entry service p n) at in
        let k : HasLoan s p n false = (v.2).2 in
        let there = loan_there n p false v.0 v.1 (v.2).1 k in (
          (k.0).0,
          ap IfUnwritten there ∙ ap (λ (b : Bool). cond {A = Option (ℕ × Loan T U)} b None (Some (n, (k.0).0)))
              (k.0).3,
          there,
          (k.0).1,
          (k.0).2,
        )

    pub has_written : (service p n : ℕ) → slice_get table of ≡ Some (Written_entry service p n)
        → (l : Loan T U) × (written_at s handles of ≡ Some (n, l)) × (loan_at s handles of ≡ Some (n, l))
        × (s.loans n ≡ Some l) × (l.publisher ≡ p)
    has_written service p n at =
        let v = handle_of (Written_entry service p n) at in
        let k : HasLoan s p n true = (v.2).2 in
        let there = loan_there n p true v.0 v.1 (v.2).1 k in (
          (k.0).0,
          ap IfWritten there ∙ ap (λ (b : Bool). cond {A = Option (ℕ × Loan T U)} b (Some (n, (k.0).0)) None)
              (k.0).3,
          there,
          (k.0).1,
          (k.0).2,
        )

    -- it can be sent where its publisher waits for no receiver
    pub sendable : (service p n : ℕ) → slice_get table of ≡ Some (Written_entry service p n) → IsUnblockedPort s p
        → (l : Loan T U) × (sendable_at s handles of ≡ Some (n, l)) × (s.loans n ≡ Some l) × (l.publisher ≡ p)
    sendable service p n at free =
        let found = has_written service p n at in
        let unblocked : is_blocked s (found.0).publisher ≡ false = ap (is_blocked s) found.4 ∙ not_blocked p free in (
          found.0,
          ap if_unblocked found.1 ∙ ap
              (λ (b : Bool). cond {A = Option (ℕ × Loan T U)} b None (Some (n, found.0))) unblocked,
          found.3,
          found.4,
        )

    -- and not where it waits
    pub unsendable : (service p n : ℕ) → slice_get table of ≡ Some (Written_entry service p n)
        → (IsUnblockedPort s p → ⊥) → sendable_at s handles of ≡ None
    unsendable service p n at waits =
        let found = has_written service p n at in
        ap if_unblocked found.1 ∙ ap (λ (b : Bool). cond {A = Option (ℕ × Loan T U)} b None (Some (n, found.0)))
        (ap (is_blocked s) found.4 ∙ blocked)
      where
        free : (o : Option Publisher) → s.publishers p ≡ o
            → option_map_or (λ (x : Publisher). is_some x.blocked) o false ≡ false → IsUnblockedPort s p
        free None none e = λ x there. absurd (none-some x (sym none ∙ there))
        free (Some y) stands e =
            λ x there. ap (λ (v : Publisher). v.blocked) (same_Some x y (sym there ∙ stands)) ∙ none y.blocked e where
              none : (o : Option BlockedSend) → is_some o ≡ false → o ≡ None
              none None e = refl
              none (Some b) e = absurd (true≢false e)

        blocked : is_blocked s p ≡ true
        blocked = by (is_blocked s p) refl where
          by : (b : Bool) → is_blocked s p ≡ b → is_blocked s p ≡ true
          by true e = e
          by false e = absurd (waits (free (s.publishers p) refl e))

    pub lacks_blocked : Lacks is_blocked_entry table of → blocked_at s handles of ≡ None
    lacks_blocked absent = lacks blocked_named refl is_blocked_entry no_blocked absent

    pub has_blocked : (service p n : ℕ) → slice_get table of ≡ Some (Blocked_entry service p n)
        → (x : Publisher) × (b : BlockedSend) × (blocked_at s handles of ≡ Some (p, b)) × (s.publishers p ≡ Some x)
        × (x.blocked ≡ Some b) × (b.message ≡ n)
    has_blocked service p n at =
        let v = handle_of (Blocked_entry service p n) at in
        let has : HoldsBlocked s p n = (v.2).2 in (
          has.0,
          has.1,
          ap blocked_named (v.1 ∙ ap Some (v.2).1)
              ∙ ap (λ (o : Option Publisher). option_and_then {U = ℕ × BlockedSend}
              (λ x. option_and_then {U = ℕ × BlockedSend} (λ b. cond (b.message == n) (Some (p, b)) None) x.blocked) o)
              has.2
              ∙ ap (λ (o : Option BlockedSend).
              option_and_then {U = ℕ × BlockedSend} (λ b. cond (b.message == n) (Some (p, b)) None) o) has.3
              ∙ ap (λ (t : Bool). cond {A = Option (ℕ × BlockedSend)} t (Some (p, has.1)) None)
              (eq-eqb (has.1).message n has.4),
          has.2,
          has.3,
          has.4,
        )

    pub has_sample : (service p q n : ℕ) → slice_get table of ≡ Some (Sample_entry service p q n)
        → sample_at s handles of ≡ Some (p, q, n)
    has_sample service p q n at =
        let v = handle_of (Sample_entry service p q n) at in
        ap (λ (o : Option Handle). elim o [
          | Some (Sample_handle p q n) ↦
              cond {A = Option (ℕ × ℕ × ℕ)} (is_borrowed n (s.mailboxes p q)) (Some (p, q, n)) None
          | _ ↦ None
        ]) (v.1 ∙ ap Some (v.2).1)
        ∙ ap (λ (b : Bool). cond {A = Option (ℕ × ℕ × ℕ)} b (Some (p, q, n)) None) (v.2).2
