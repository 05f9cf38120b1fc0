-- A state whose publisher, mailboxes of that publisher, and loans change: what is to be shown for it to stay
-- well-formed.
use Rattle.std.proofs.Common.{◌≡◌, ℕ, le_refl, ◌≤◌, ◌<◌, true, false, cond, List, ◌++◌, refl, sym, ap, subst, ◌∙◌}
use Rattle.std.proofs.Common.{arith, eqb, ⊎_elim, ◌⊎◌, Option, None, Some}
use Rattle.std.specs.Option.{MatchOption, option_map}
use Rattle.std.proofs.lemmas.Bool.{eqb-true, ne_eqb}
use Rattle.std.proofs.lemmas.Option.{none-some, same_Some}
use Rattle.iox2_machine.specs.machine.Numbers.{put_at, contains}
use Rattle.iox2_machine.specs.machine.Mailbox.{Mailbox, numbers_in, has_numbers, has_borrows}
use Rattle.iox2_machine.specs.machine.Records.{Loan, Publisher}
use Rattle.iox2_machine.specs.machine.State.{State}
use Rattle.iox2_machine.specs.machine.WellFormed.{LeadsTo, publisher_place, PublisherIsWellFormed, MailboxIsWellFormed}
use Rattle.iox2_machine.specs.machine.WellFormed.{LoanIsWellFormed, IsWellFormed}
use Rattle.iox2_laws.proofs.NumberLemmas.{contains_in_append, contains_left, contains_right}
use Rattle.iox2_laws.proofs.PortChanges.{FewerNumbers, publisher_in, subscriber_in, mailbox_in, loan_in}
use Rattle.iox2_laws.proofs.Puts.{put_at-same, put_at-other, at_each, found_put}

-- an absent port isn't a present one
pub absent_apart : {A : Type 0} (f : ℕ → Option A) (i k : ℕ) (a : A) → f i ≡ None → f k ≡ Some a → eqb i k ≡ false
absent_apart f i k a none some = ne_eqb i k (λ same. none-some a (sym none ∙ ap f same ∙ some))

-- two states with the same parts are the same
pub same_state : {T U : Type 0} (a b : State T U)
    → a.config ≡ b.config → a.next_port ≡ b.next_port → a.next_message ≡ b.next_message
    → ((n : ℕ) → a.loans n ≡ b.loans n) → ((p : ℕ) → a.publishers p ≡ b.publishers p)
    → ((q : ℕ) → a.subscribers q ≡ b.subscribers q)
    → ((p q : ℕ) → a.mailboxes p q ≡ b.mailboxes p q) → ((p q : ℕ) → a.channels p q ≡ b.channels p q)
    → a.publisher_places ≡ b.publisher_places → a.subscriber_places ≡ b.subscriber_places → a.warnings ≡ b.warnings
    → a ≡ b
same_state a b e1 e2 e3 e4 e5 e6 e7 e8 e9 e10 e11 = λ i. record {
  config = e1 i;
  next_port = e2 i;
  next_message = e3 i;
  loans = λ n. e4 n i;
  publishers = λ p. e5 p i;
  subscribers = λ q. e6 q i;
  mailboxes = λ p q. e7 p q i;
  channels = λ p q. e8 p q i;
  publisher_places = e9 i;
  subscriber_places = e10 i;
  warnings = e11 i;
}

-- a number of three lists stands in one of them
pub in_three : (xs ys zs : List ℕ) (n : ℕ) (R : Type 0) → contains (xs ++ ys ++ zs) n ≡ true
    → (contains xs n ≡ true → R) → (contains ys n ≡ true → R)
    → (contains zs n ≡ true → R) → R
in_three xs ys zs n R h first second third =
    ⊎_elim (λ k. ⊎_elim first second (contains_in_append xs ys n k)) third (contains_in_append (xs ++ ys) zs n h)

-- a number of one of three lists stands in them
pub in_first : (xs ys zs : List ℕ) (n : ℕ) → contains xs n ≡ true → contains (xs ++ ys ++ zs) n ≡ true
in_first xs ys zs n h = contains_left (xs ++ ys) zs n (contains_left xs ys n h)

pub in_second : (xs ys zs : List ℕ) (n : ℕ) → contains ys n ≡ true → contains (xs ++ ys ++ zs) n ≡ true
in_second xs ys zs n h = contains_left (xs ++ ys) zs n (contains_right xs ys n h)

pub in_third : (xs ys zs : List ℕ) (n : ℕ) → contains zs n ≡ true → contains (xs ++ ys ++ zs) n ≡ true
in_third xs ys zs n h = contains_right (xs ++ ys) zs n h

module _ {T U : Type 0} where
  -- The state with other publishers, mailboxes and loans, and another number for the next loan.
  abbrev pub rewritten : State T U → (ℕ → Option Publisher) → (ℕ → ℕ → Mailbox) → (ℕ → Option (Loan T U)) → (next : ℕ)
      → State T U
  rewritten s publishers mailboxes loans next =
      record s { publishers = publishers; mailboxes = mailboxes; loans = loans; next_message = next }

  -- The state with another record and row of mailboxes of the publisher p.
  abbrev pub altered : State T U → (p : ℕ) → Publisher → (ℕ → Mailbox) → (ℕ → Option (Loan T U)) → (next : ℕ)
      → State T U
  altered s p x boxes loans next = rewritten s (put_at s.publishers p (Some x)) (put_at s.mailboxes p boxes) loans next

  -- The state in which each publisher is this one, and has these mailboxes.
  abbrev pub uniform : State T U → Publisher → (ℕ → Mailbox) → (ℕ → Option (Loan T U)) → (next : ℕ) → State T U
  uniform s x boxes loans next = rewritten s (λ _. Some x) (λ _. boxes) loans next

  module _ (s : State T U) (publishers : ℕ → Option Publisher) (mailboxes : ℕ → ℕ → Mailbox)
      (loans : ℕ → Option (Loan T U)) (next : ℕ)
      (more : s.next_message ≤ next) where
    -- a mailbox stays well-formed where it and its publisher stay the same
    pub mailbox_moves : (p q : ℕ) → publishers p ≡ s.publishers p → mailboxes p q ≡ s.mailboxes p q
        → MailboxIsWellFormed s p q
        → MailboxIsWellFormed (rewritten s publishers mailboxes loans next) p q
    mailbox_moves p q same box w =
        mailbox_in s (rewritten s publishers mailboxes loans next) p q w (le_refl s.next_port) more box
        (λ y e. (w.room y e, w.others_room y e))
        (λ x e. w.sender_end x (sym same ∙ e)) w.receiver_end (λ gone. w.departed (sym same ∙ gone))

    -- mailboxes that stay the same get no numbers
    same_numbers : (p : ℕ) → mailboxes p ≡ s.mailboxes p → (q : ℕ)
        → FewerNumbers s (rewritten s publishers mailboxes loans next) p q
    same_numbers p row q n h = ap (λ (m : ℕ → Mailbox). contains (numbers_in (m q)) n) (sym row) ∙ h

    -- a loan stays well-formed where its publisher and that one's mailboxes stay the same
    pub loan_moves : (n : ℕ) (l : Loan T U) → publishers l.publisher ≡ s.publishers l.publisher
        → mailboxes l.publisher ≡ s.mailboxes l.publisher
        → LoanIsWellFormed s n l
        → LoanIsWellFormed (rewritten s publishers mailboxes loans next) n l
    loan_moves n l same row w =
        loan_in s (rewritten s publishers mailboxes loans next) n l w (le_refl s.next_port) more
        (λ q. same_numbers l.publisher row q) (λ x e. w.is_out x (sym same ∙ e))

    -- a publisher stays well-formed where its mailboxes stay the same and its loans stay its own
    pub publisher_moves : (p : ℕ) (x : Publisher) → mailboxes p ≡ s.mailboxes p
        → ((n : ℕ) (l : Loan T U) → s.loans n ≡ Some l → l.publisher ≡ p
        → (l' : Loan T U) × (loans n ≡ Some l') × (l'.publisher ≡ p))
        → ((n : ℕ) → n < s.next_message → s.loans n ≡ None → loans n ≡ None)
        → PublisherIsWellFormed s p x → PublisherIsWellFormed (rewritten s publishers mailboxes loans next) p x
    publisher_moves p x row own none w =
        publisher_in s (rewritten s publishers mailboxes loans next) p x w (le_refl s.next_port) more
        (same_numbers p row) w.ends_stand own none

  module _ (s : State T U) (p : ℕ) (x x' : Publisher) (boxes : ℕ → Mailbox) (loans : ℕ → Option (Loan T U))
      (next : ℕ) where
    -- where nothing but the publisher's record changes, and that keeps its place, every place has its port
    place_alike : s.publishers p ≡ Some x → x'.place ≡ x.place → (i : ℕ)
        → publisher_place (altered s p x' boxes loans next) i ≡ publisher_place s i
    place_alike here place i =
        at_each s.publishers p (Some x')
        (λ j o. option_map {T = Publisher} {U = ℕ} (λ v. v.place) o ≡ publisher_place s j) i
        (λ _. ap Some place ∙ sym (ap (option_map {T = Publisher} {U = ℕ} (λ v. v.place)) here))
        (λ _. refl)

    subscriber_end_stands : s.publishers p ≡ Some x → x'.place ≡ x.place → (place i q : ℕ)
        → MatchOption (s.publishers i) (has_numbers (s.mailboxes i q) ≡ true) (λ (v : Publisher). v.place ≡ place)
        → MatchOption (put_at s.publishers p (Some x') i) (has_numbers (put_at s.mailboxes p boxes i q) ≡ true)
        (λ (v : Publisher). v.place ≡ place)
    subscriber_end_stands here same place i q h =
        elim (eqb i p) as (λ b. eqb i p ≡ b
        → MatchOption (cond b (Some x') (s.publishers i)) (has_numbers (cond b boxes (s.mailboxes i) q) ≡ true)
        (λ (v : Publisher). v.place ≡ place)) [
          | true ↦ λ e. same
              ∙ subst (λ o. MatchOption o (has_numbers (s.mailboxes i q) ≡ true) (λ (v : Publisher). v.place ≡ place))
              (ap s.publishers (eqb-true i p e) ∙ here) h
          | false ↦ λ _. h
        ] refl

    -- what changes at one publisher keeps a state well-formed where that publisher, its mailboxes and its loans are so
    pub altered_keeps : IsWellFormed s → s.publishers p ≡ Some x → x'.place ≡ x.place → s.next_message ≤ next
        → PublisherIsWellFormed (uniform s x' boxes loans next) p x'
        → ((q : ℕ) → MailboxIsWellFormed (uniform s x' boxes loans next) p q)
        → ((q : ℕ) → has_borrows (s.mailboxes p q) ≡ true → has_borrows (boxes q) ≡ true)
        → ((n : ℕ) (l : Loan T U) → loans n ≡ Some l → ((s.loans n ≡ Some l) × (eqb l.publisher p ≡ false))
        ⊎ ((l.publisher ≡ p) × LoanIsWellFormed (uniform s x' boxes loans next) n l))
        → ((n : ℕ) (l : Loan T U) → s.loans n ≡ Some l → eqb l.publisher p ≡ false → loans n ≡ Some l)
        → ((n : ℕ) → n < s.next_message → s.loans n ≡ None → loans n ≡ None)
        → IsWellFormed (altered s p x' boxes loans next)
    altered_keeps w here place more own row still own_loans other_loans none = record {
      publisher_places = record {
        bound = (w.publisher_places).bound;
        stands = λ i at e. (w.publisher_places).stands i at (sym (place_alike here place i) ∙ e);
        known = λ i at e. place_alike here place i ∙ (w.publisher_places).known i at e;
      };
      subscriber_places = w.subscriber_places;
      publishers = λ i v e.
          found_put s.publishers p x' (λ j u. PublisherIsWellFormed (altered s p x' boxes loans next) j u) i v e
          (λ _. publisher_moves (uniform s x' boxes loans next) (put_at s.publishers p (Some x'))
          (put_at s.mailboxes p boxes) loans next (le_refl next) p x'
          (put_at-same s.mailboxes p boxes) (λ n l e k. (l, e, k)) (λ n _ e. e) own)
          (λ apart e.
          publisher_moves s (put_at s.publishers p (Some x')) (put_at s.mailboxes p boxes) loans next more i v
          (put_at-other s.mailboxes p boxes i apart)
          (λ n l e k. (l, other_loans n l e (ap (λ j. eqb j p) k ∙ apart), k)) none (w.publishers i v e));
      subscribers =
          λ q y e. subscriber_in s (altered s p x' boxes loans next) q y (w.subscribers q y e) (le_refl s.next_port)
          (λ at i _. subscriber_end_stands here place at i q)
          (λ i _ gone. put_at-other s.publishers p (Some x') i (absent_apart s.publishers i p x gone here) ∙ gone)
          (λ i gone h. ap (λ (m : ℕ → Mailbox). has_numbers (m q))
          (put_at-other s.mailboxes p boxes i (absent_apart s.publishers i p x gone here)) ∙ h)
          (λ i. at_each s.mailboxes p boxes (λ i (m : ℕ → Mailbox). has_borrows (s.mailboxes i q) ≡ true
          → has_borrows (m q) ≡ true) i (λ _. still q) (λ _ h. h));
      mailboxes = λ i q.
          elim (eqb i p) as (λ b. eqb i p ≡ b → MailboxIsWellFormed (altered s p x' boxes loans next) i q) [
            | true ↦ λ e. subst (λ j. MailboxIsWellFormed (altered s p x' boxes loans next) j q) (sym (eqb-true i p e))
                (mailbox_moves (uniform s x' boxes loans next) (put_at s.publishers p (Some x'))
                (put_at s.mailboxes p boxes) loans next (le_refl next) p q
                (put_at-same s.publishers p (Some x')) (ap (λ (m : ℕ → Mailbox). m q) (put_at-same s.mailboxes p boxes))
                (row q))
            | false ↦
                λ e. mailbox_moves s (put_at s.publishers p (Some x')) (put_at s.mailboxes p boxes) loans next more i q
                (put_at-other s.publishers p (Some x') i e)
                (ap (λ (m : ℕ → Mailbox). m q) (put_at-other s.mailboxes p boxes i e)) (w.mailboxes i q)
          ] refl;
      loans = λ n l e. ⊎_elim
          (λ (old : (s.loans n ≡ Some l) × (eqb l.publisher p ≡ false)).
          loan_moves s (put_at s.publishers p (Some x')) (put_at s.mailboxes p boxes) loans next
          more n l
          (put_at-other s.publishers p (Some x') l.publisher old.1) (put_at-other s.mailboxes p boxes l.publisher old.1)
          (w.loans n l old.0))
          (λ (new : (l.publisher ≡ p) × LoanIsWellFormed (uniform s x' boxes loans next) n l).
          loan_moves (uniform s x' boxes loans next)
          (put_at s.publishers p (Some x')) (put_at s.mailboxes p boxes) loans next (le_refl next) n l
          (ap (put_at s.publishers p (Some x')) new.0 ∙ put_at-same s.publishers p (Some x'))
          (ap (put_at s.mailboxes p boxes) new.0 ∙ put_at-same s.mailboxes p boxes) new.1)
          (own_loans n l e);
    }

  module _ (s : State T U) (p : ℕ) (x x' : Publisher) (boxes : ℕ → Mailbox) (loans : ℕ → Option (Loan T U)) (next : ℕ)
      (here : s.publishers p ≡ Some x)
      (more : s.next_message ≤ next) where
    -- a mailbox that stays the same is well-formed where the publisher keeps its ends
    pub mailbox_stays : (q : ℕ) → x'.ends ≡ x.ends → boxes q ≡ s.mailboxes p q → MailboxIsWellFormed s p q
        → MailboxIsWellFormed (uniform s x' boxes loans next) p q
    mailbox_stays q ends box w =
        mailbox_in s (uniform s x' boxes loans next) p q w (le_refl s.next_port) more box
        (λ y e. (w.room y e, w.others_room y e))
        (λ v e h. subst (λ (u : Publisher). LeadsTo u.ends q) (same_Some x' v e)
        (subst (λ places. LeadsTo places q) (sym ends) (w.sender_end x here h)))
        w.receiver_end (λ gone _. absurd (none-some x' (sym gone)))

    -- a loan of the publisher stays well-formed where it stays out, and enters neither the history nor a mailbox
    pub loan_stays : (n : ℕ) (l : Loan T U) → l.publisher ≡ p → (contains x.loans n ≡ true → contains x'.loans n ≡ true)
        → (contains x.history n ≡ false → contains x'.history n ≡ false)
        → ((q : ℕ) → contains (numbers_in (s.mailboxes p q)) n ≡ false → contains (numbers_in (boxes q)) n ≡ false)
        → LoanIsWellFormed s n l → LoanIsWellFormed (uniform s x' boxes loans next) n l
    loan_stays n l own out unsent absent w =
        let facts : (contains x.loans n ≡ true) × (contains x.history n ≡ false) =
        w.is_out x (ap s.publishers own ∙ here) in
        record {
          below = omega (arith, w.below);
          known = w.known;
          origin = w.origin;
          cells = w.cells;
          complete = w.complete;
          is_out = λ v e. subst (λ (u : Publisher). (contains u.loans n ≡ true) × (contains u.history n ≡ false))
              (same_Some x' v e) (out facts.0, unsent facts.1);
          unsent = λ q. absent q (ap (λ i. contains (numbers_in (s.mailboxes i q)) n) (sym own) ∙ w.unsent q);
        }

  -- writing a publisher's own mailboxes changes nothing
  pub altered_same_row : (s : State T U) (p : ℕ) (x : Publisher) (loans : ℕ → Option (Loan T U)) (next : ℕ)
      (publishers : ℕ → Option Publisher)
      → ((i : ℕ) → put_at s.publishers p (Some x) i ≡ publishers i)
      → altered s p x (s.mailboxes p) loans next ≡ rewritten s publishers s.mailboxes loans next
  altered_same_row s p x loans next publishers same =
      same_state (altered s p x (s.mailboxes p) loans next)
      (rewritten s publishers s.mailboxes loans next) refl refl refl (λ _. refl) same (λ _. refl)
      (λ i q. at_each s.mailboxes p (s.mailboxes p) (λ j m. m q ≡ s.mailboxes j q) i (λ _. refl) (λ _. refl))
      (λ _ _. refl) refl refl refl
