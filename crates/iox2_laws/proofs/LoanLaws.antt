-- Granting, changing and discarding a loan keeps a state well-formed.
use Rattle.std.proofs.Common.{◌≡◌, ℕ, le_refl, ◌+◌, ◌*◌, ◌≤◌, ◌<◌, Bool, true, false, List, [], ◌∷◌, ◌++◌, length}
use Rattle.std.proofs.Common.{replicate, max, zero, suc, is_some, refl, sym, ap, subst, ◌∙◌, arith, eqb, ⊎_elim, ◌⊎◌}
use Rattle.std.proofs.Common.{inl, inr, Option, None, Some}
use Rattle.std.specs.Option.{MatchOption, option_map, option_map_or}
use Rattle.std.specs.Prelude.{slice_set}
use Rattle.std.specs.List.{flat_map, list_all}
use Rattle.std.proofs.lemmas.Bool.{true≢false, eqb-true, eqb-false, eq-eqb, ne_eqb, and_parts, and_from, or_left}
use Rattle.std.proofs.lemmas.List.{length-append, length-replicate, length-set}
use Rattle.std.proofs.lemmas.Option.{none-some, same_Some}
use Rattle.iox2_machine.specs.machine.Limits.{segment_limit}
use Rattle.iox2_machine.specs.machine.Numbers.{put_at, contains, without, size}
use Rattle.iox2_machine.specs.machine.Places.{occupants}
use Rattle.iox2_machine.specs.machine.Mailbox.{numbers_in}
use Rattle.iox2_machine.specs.machine.Records.{Loan, Publisher, Environment}
use Rattle.iox2_machine.specs.machine.State.{State, held, with_loan, is_blocked}
use Rattle.iox2_machine.specs.machine.Loans.{is_static, loan_granted, GrantLoan, written, with_cell, is_initialized}
use Rattle.iox2_machine.specs.machine.Loans.{initialized, loan_discarded}
use Rattle.iox2_machine.specs.machine.SingleCalls.{GrantWrittenLoan}
use Rattle.iox2_machine.specs.machine.WellFormed.{BlockedIsWellFormed, PublisherIsWellFormed, LoanIsWellFormed}
use Rattle.iox2_machine.specs.machine.WellFormed.{IsWellFormed}
use Rattle.iox2_machine.specs.declared.header.Header.{Header}
use Rattle.iox2_machine.specs.declared.errors.LoanError.{LoanError}
use Rattle.iox2_laws.specs.Laws.{Advances}
use Rattle.iox2_laws.proofs.Cases.{by_option}
use Rattle.iox2_laws.proofs.CallCases.{grant_cases}
use Rattle.iox2_laws.proofs.OperationWalks.{advance, grant_by_steps}
use Rattle.iox2_laws.proofs.NumberLemmas.{contains_in_append, contains_left, contains_right, contains_one, absent_from}
use Rattle.iox2_laws.proofs.NumberLemmas.{IsOnce-push, IsOnce-without, contains_in_without, contains-without_same}
use Rattle.iox2_laws.proofs.NumberLemmas.{contains-without_other, length-without_le, size_le, size_le_one_more}
use Rattle.iox2_laws.proofs.Puts.{put_at-same, put_at-other, at_each, found_put, found_removed}
use Rattle.iox2_laws.proofs.PortChanges.{subscriber_in}
use Rattle.iox2_laws.proofs.Altered.{absent_apart, same_state, in_three, in_first, in_second, in_third, altered}
use Rattle.iox2_laws.proofs.Altered.{uniform, mailbox_moves, loan_moves, publisher_moves, altered_keeps, mailbox_stays}
use Rattle.iox2_laws.proofs.Altered.{loan_stays, altered_same_row}

-- cells that are all written
some_replicate : {A : Type 0} (n : ℕ) (a : A) → list_all is_some (replicate n (Some a)) ≡ true
some_replicate zero a = refl
some_replicate (suc n) a = some_replicate n a

some_set : {A : Type 0} (cells : List (Option A)) (at : ℕ) (a : A) → list_all is_some cells ≡ true
    → list_all is_some (slice_set cells at (Some a)) ≡ true
some_set [] at a h = h
some_set (cell ∷ cells) zero a h = (and_parts (is_some cell) (list_all is_some cells) h).1
some_set (cell ∷ cells) (suc at) a h =
    let parts : (is_some cell ≡ true) × (list_all is_some cells ≡ true) =
    and_parts (is_some cell) (list_all is_some cells) h in
    and_from (is_some cell) (list_all is_some (slice_set cells at (Some a))) parts.0 (some_set cells at a parts.1)

module _ {T U : Type 0} where
  -- ---- other loans alone

  -- other loans alone keep a state well-formed where those of present publishers stay their own and none appears
  pub loans_keep : (s : State T U) (loans : ℕ → Option (Loan T U)) → IsWellFormed s
      → ((n : ℕ) (l : Loan T U) → loans n ≡ Some l → LoanIsWellFormed s n l)
      → ((n : ℕ) (l : Loan T U) (x : Publisher) → s.loans n ≡ Some l → s.publishers l.publisher ≡ Some x
      → (l' : Loan T U) × (loans n ≡ Some l') × (l'.publisher ≡ l.publisher))
      → ((n : ℕ) → s.loans n ≡ None → loans n ≡ None)
      → IsWellFormed (record s { loans = loans })
  loans_keep s loans w own stays none = record {
    publisher_places = w.publisher_places;
    subscriber_places = w.subscriber_places;
    publishers =
        λ p x e. publisher_moves s s.publishers s.mailboxes loans s.next_message (le_refl s.next_message) p x refl
        (λ n l h same. let found : (l' : Loan T U) × (loans n ≡ Some l')
        × (l'.publisher ≡ l.publisher) = stays n l x h (ap s.publishers same ∙ e) in
        (found.0, found.1, found.2 ∙ same))
        (λ n _ h. none n h) (w.publishers p x e);
    subscribers = λ q y e. subscriber_in s (record s { loans = loans }) q y (w.subscribers q y e) (le_refl s.next_port)
        (λ place p _ h. h) (λ p _ h. h) (λ p _ h. h) (λ p h. h);
    mailboxes = λ p q. mailbox_moves s s.publishers s.mailboxes loans s.next_message
        (le_refl s.next_message) p q refl refl (w.mailboxes p q);
    loans = λ n l e.
        loan_moves s s.publishers s.mailboxes loans s.next_message (le_refl s.next_message) n l refl refl (own n l e);
  }

  module _ (s : State T U) (w : IsWellFormed s) (n : ℕ) (l : Loan T U) (found : s.loans n ≡ Some l) where
    -- a loan changes in its user header and its cells, and a written one has all of these
    pub with_loan_keeps : (l' : Loan T U) → l'.publisher ≡ l.publisher → l'.header ≡ l.header
        → length l'.cells ≡ length l.cells
        → (l'.is_written ≡ true → is_initialized l' ≡ true) → IsWellFormed (with_loan s n (Some l'))
    with_loan_keeps l' same header cells complete =
        let v : LoanIsWellFormed s n l = w.loans n l found in
        let new : LoanIsWellFormed s n l' = record {
          below = v.below;
          known = subst (λ i. i < s.next_port) (sym same) v.known;
          origin = ap (λ (h : Header). h.publisher_id) header ∙ v.origin ∙ sym same;
          cells =
              cells ∙ v.cells ∙ ap (λ (h : Header). h.number_of_elements * (s.config).units_per_element) (sym header);
          complete = complete;
          is_out = λ x e. v.is_out x (ap s.publishers (sym same) ∙ e);
          unsent = λ q. ap (λ i. contains (numbers_in (s.mailboxes i q)) n) same ∙ v.unsent q;
        } in
        loans_keep s (put_at s.loans n (Some l')) w
        (λ i u e. found_put s.loans n l' (LoanIsWellFormed s) i u e (λ _. new) (λ _ e. w.loans i u e))
        (λ i u x e _. at_each s.loans n (Some l')
        (λ j o. s.loans j ≡ Some u → (l2 : Loan T U) × (o ≡ Some l2) × (l2.publisher ≡ u.publisher)) i
        (λ _ e. (l', refl, same ∙ ap (λ (k : Loan T U). k.publisher) (same_Some l u (sym found ∙ e))))
        (λ _ e. (u, e, refl)) e)
        (λ i e. at_each s.loans n (Some l') (λ j o. s.loans j ≡ None → o ≡ None) i
        (λ _ e. absurd (none-some l (sym e ∙ found))) (λ _ e. e) e)

    -- a loan of a closed publisher is lost
    pub loan_lost_keeps : s.publishers l.publisher ≡ None → IsWellFormed (with_loan s n None)
    loan_lost_keeps gone =
        loans_keep s (put_at s.loans n None) w
        (λ i u e. found_removed s.loans n i u (LoanIsWellFormed s i u) e (λ _ e. w.loans i u e))
        (λ i u x e here. (
          u,
          put_at-other s.loans n None i
              (ne_eqb i n
              (λ same. none-some x (sym gone ∙ ap (λ (k : Loan T U). s.publishers k.publisher)
              (same_Some l u (sym found ∙ ap s.loans (sym same) ∙ e))
              ∙ here))) ∙ e,
          refl,
        ))
        (λ i e. at_each s.loans n None (λ _ o. o ≡ None) i (λ _. refl) (λ _. e))

    -- one cell is written
    pub cell_written_keeps : (at : ℕ) (value : T) → IsWellFormed (with_loan s n (Some (with_cell l at value)))
    cell_written_keeps at value = with_loan_keeps (with_cell l at value) refl refl (length-set l.cells at (Some value))
        (λ h. some_set l.cells at value ((w.loans n l found).complete h))

    -- every cell is written to the same value
    pub loan_written_keeps : (value : T) → IsWellFormed (with_loan s n (Some (written l value)))
    loan_written_keeps value =
        with_loan_keeps (written l value) refl refl (length-replicate (length l.cells) (Some value))
        (λ _. some_replicate (length l.cells) value)

    -- the user header is written
    pub user_header_keeps : (header : U) → IsWellFormed (with_loan s n (Some (record l { user_header = header })))
    user_header_keeps header =
        with_loan_keeps (record l { user_header = header }) refl refl refl ((w.loans n l found).complete)

    -- a loan with every cell written is a written one
    pub initialized_keeps : is_initialized l ≡ true → IsWellFormed (initialized s n l)
    initialized_keeps complete = with_loan_keeps (record l { is_written = true }) refl refl refl (λ _. complete)

    -- ---- a loan is given back

    -- the state after a loan of a present publisher was given back, part by part
    discarded_is : (x : Publisher) → s.publishers l.publisher ≡ Some x
        → altered s l.publisher (record x { loans = without n x.loans }) (s.mailboxes l.publisher)
        (put_at s.loans n None) s.next_message ≡ loan_discarded s n l
    discarded_is x here =
        altered_same_row s l.publisher (record x { loans = without n x.loans }) (put_at s.loans n None) s.next_message
        (put_at s.publishers l.publisher
        (option_map (λ (v : Publisher). record v { loans = without n v.loans }) (s.publishers l.publisher)))
        (λ i. ap (λ o. put_at s.publishers l.publisher o i)
        (ap (option_map (λ (v : Publisher). record v { loans = without n v.loans })) (sym here)))

    -- a loan that isn't n, of the publisher or of another, is there still
    other_loan : (m : ℕ) (u : Loan T U) → s.loans m ≡ Some u → eqb u.publisher l.publisher ≡ false
        → put_at s.loans n None m ≡ Some u
    other_loan m u e apart = put_at-other s.loans n None m
        (ne_eqb m n (λ same. eqb-false u.publisher l.publisher apart
        (ap (λ (k : Loan T U). k.publisher) (same_Some u l (sym e ∙ ap s.loans same ∙ found))))) ∙ e

    not_this : (m : ℕ) (ns : List ℕ) → contains (without n ns) m ≡ true → eqb m n ≡ false
    not_this m ns h =
        ne_eqb m n (λ same. true≢false (sym h ∙ ap (contains (without n ns)) same ∙ contains-without_same n ns))

    discarded_publisher : (x : Publisher) → s.publishers l.publisher ≡ Some x
        → PublisherIsWellFormed (uniform s (record x { loans = without n x.loans }) (s.mailboxes l.publisher)
        (put_at s.loans n None) s.next_message) l.publisher
        (record x { loans = without n x.loans })
    discarded_publisher x here = let v : PublisherIsWellFormed s l.publisher x = w.publishers l.publisher x here in
        record {
          is_known = v.is_known;
          loans_bound = omega (arith, length-without_le n x.loans, v.loans_bound);
          loans_once = IsOnce-without n x.loans v.loans_once;
          loans_below = λ m h. v.loans_below m (contains_in_without n m x.loans h);
          loans_held = λ m h. ⊎_elim (λ held.
              inl (held.0, put_at-other s.loans n None m (not_this m x.loans h) ∙ held.1, held.2)) (λ waits. inr waits)
              (v.loans_held m (contains_in_without n m x.loans h));
          history_bound = v.history_bound;
          history_once = v.history_once;
          history_below = v.history_below;
          ends_bound = v.ends_bound;
          ends_apart = v.ends_apart;
          ends_known = v.ends_known;
          ends_stand = v.ends_stand;
          slots_bound = λ static.
              let boxes : List ℕ = flat_map (λ q. numbers_in (s.mailboxes l.publisher q)) (occupants x.ends) in
              let fewer : size (without n x.loans ++ x.history ++ boxes) ≤ size (x.loans ++ x.history ++ boxes) =
              size_le (without n x.loans ++ x.history ++ boxes) (x.loans ++ x.history ++ boxes)
              (λ m h. in_three (without n x.loans) x.history boxes m _ h
              (λ k. in_first x.loans x.history boxes m (contains_in_without n m x.loans k))
              (in_second x.loans x.history boxes m)
              (in_third x.loans x.history boxes m)) in
              omega (arith, fewer, v.slots_bound static);
          some_segment = v.some_segment;
          segments_bound = v.segments_bound;
          blocked = λ b e. let u : BlockedIsWellFormed s l.publisher x b = v.blocked b e in
              let apart : eqb b.message n ≡ false = absent_apart s.loans b.message n l u.unheld found in record {
                is_out = contains-without_other n b.message x.loans apart u.is_out;
                unheld = put_at-other s.loans n None b.message apart ∙ u.unheld;
                ends = u.ends;
                channel = u.channel;
                unserved = u.unserved;
                waits = u.waits;
                count_bound = u.count_bound;
              };
        }

    -- a loan is given back
    pub loan_discarded_keeps : IsWellFormed (loan_discarded s n l)
    loan_discarded_keeps =
        elim (s.publishers l.publisher) as (λ o. s.publishers l.publisher ≡ o → IsWellFormed (loan_discarded s n l)) [
          | None ↦ λ gone. subst IsWellFormed
              (same_state (with_loan s n None) (loan_discarded s n l) refl refl refl (λ _. refl)
              (λ i. at_each s.publishers l.publisher
              (option_map (λ (v : Publisher). record v { loans = without n v.loans }) (s.publishers l.publisher))
              (λ j o. s.publishers j ≡ o) i
              (λ _. gone ∙ sym (ap (option_map (λ (v : Publisher). record v { loans = without n v.loans })) gone))
              (λ _. refl))
              (λ _. refl) (λ _ _. refl) (λ _ _. refl) refl refl refl)
              (loan_lost_keeps gone)
          | Some x ↦ λ here. subst IsWellFormed (discarded_is x here)
              (altered_keeps s l.publisher x (record x { loans = without n x.loans }) (s.mailboxes l.publisher)
              (put_at s.loans n None) s.next_message w here
              refl (le_refl s.next_message)
              (discarded_publisher x here)
              (λ q. mailbox_stays s l.publisher x (record x { loans = without n x.loans }) (s.mailboxes l.publisher)
              (put_at s.loans n None) s.next_message
              here (le_refl s.next_message) q refl refl (w.mailboxes l.publisher q))
              (λ q h. h)
              (λ m u e. found_removed s.loans n m u _ e (λ apart e.
              elim (eqb u.publisher l.publisher) as (λ b. eqb u.publisher l.publisher ≡ b
              → ((s.loans m ≡ Some u) × (b ≡ false)) ⊎ ((u.publisher ≡ l.publisher)
              × LoanIsWellFormed (uniform s (record x { loans = without n x.loans }) (s.mailboxes l.publisher)
              (put_at s.loans n None) s.next_message) m
              u)) [
                | true ↦ λ same. inr (
                  eqb-true u.publisher l.publisher same,
                  loan_stays s l.publisher x (record x { loans = without n x.loans }) (s.mailboxes l.publisher)
                      (put_at s.loans n None) s.next_message
                      here (le_refl s.next_message) m u
                      (eqb-true u.publisher l.publisher same) (contains-without_other n m x.loans apart) (λ h. h)
                      (λ q h. h) (w.loans m u e),
                )
                | false ↦ λ _. inl (e, refl)
              ] refl))
              other_loan
              (λ i _ e. at_each s.loans n None (λ _ o. o ≡ None) i (λ _. refl) (λ _. e)))
        ] refl

  -- ---- a loan is granted

  -- The loan that is granted.
  abbrev granted : U → State T U → (p len : ℕ) → Loan T U
  granted default_header s p len = record {
    publisher = p;
    header = record { node_id = (s.config).node_id; publisher_id = p; number_of_elements = len };
    user_header = default_header;
    cells = replicate (len * (s.config).units_per_element) None;
    is_written = false;
  }

  module _ (default_header : U) (s : State T U) (w : IsWellFormed s) (p : ℕ) (x : Publisher)
      (here : s.publishers p ≡ Some x) (len segments : ℕ) where
    abbrev lender : Publisher
    lender = record x
        { loans = x.loans ++ s.next_message ∷ []; longest_granted = max x.longest_granted len; segments = segments }

    granted_is : altered s p lender (s.mailboxes p)
        (put_at s.loans s.next_message (Some (granted default_header s p len))) (s.next_message + 1) ≡ loan_granted
        default_header s p x len segments
    granted_is = altered_same_row s p lender (put_at s.loans s.next_message (Some (granted default_header s p len)))
        (s.next_message + 1)
        (put_at s.publishers p (Some lender)) (λ _. refl)

    -- the next loan's number is in no loan so far
    old_loan : (m : ℕ) → m < s.next_message
        → put_at s.loans s.next_message (Some (granted default_header s p len)) m ≡ s.loans m
    old_loan m low = put_at-other s.loans s.next_message (Some (granted default_header s p len)) m
        (ne_eqb m s.next_message (λ same. absurd (omega arith)))

    lender_is_well_formed : length x.loans < x.max_loaned_samples
        → (is_static x.allocation_strategy ≡ true → size (held s p x) < x.slots) → 0 < segments
        → segments ≤ segment_limit
        → PublisherIsWellFormed (uniform s lender (s.mailboxes p)
        (put_at s.loans s.next_message (Some (granted default_header s p len))) (s.next_message + 1)) p
        lender
    lender_is_well_formed room free some few = let v : PublisherIsWellFormed s p x = w.publishers p x here in record {
      is_known = v.is_known;
      loans_bound = omega (arith, length-append x.loans (s.next_message ∷ []), room);
      loans_once = IsOnce-push x.loans s.next_message v.loans_once
          (absent_from x.loans s.next_message
          (λ h. let low : s.next_message < s.next_message = v.loans_below s.next_message h in omega arith));
      loans_below = λ m h. ⊎_elim (λ k. let low : m < s.next_message = v.loans_below m k in omega arith)
          (λ k. let same : s.next_message ≡ m = contains_one s.next_message m k in omega arith)
          (contains_in_append x.loans (s.next_message ∷ []) m h);
      loans_held = λ m h. ⊎_elim
          (λ k. ⊎_elim (λ held. inl (held.0, old_loan m (v.loans_below m k) ∙ held.1, held.2)) (λ waits. inr waits)
          (v.loans_held m k))
          (λ k. inl (
            (granted default_header s p len),
            ap (put_at s.loans s.next_message (Some (granted default_header s p len)))
                (sym (contains_one s.next_message m k))
                ∙ put_at-same s.loans s.next_message (Some (granted default_header s p len)),
            refl,
          ))
          (contains_in_append x.loans (s.next_message ∷ []) m h);
      history_bound = v.history_bound;
      history_once = v.history_once;
      history_below = λ m h. let low : m < s.next_message = v.history_below m h in omega arith;
      ends_bound = v.ends_bound;
      ends_apart = v.ends_apart;
      ends_known = v.ends_known;
      ends_stand = v.ends_stand;
      slots_bound = λ static.
          let boxes : List ℕ = flat_map (λ q. numbers_in (s.mailboxes p q)) (occupants x.ends) in
          let more : size ((x.loans ++ s.next_message ∷ []) ++ x.history ++ boxes) ≤ size
          (x.loans ++ x.history ++ boxes) + 1 =
          size_le_one_more ((x.loans ++ s.next_message ∷ []) ++ x.history ++ boxes)
          (x.loans ++ x.history ++ boxes) s.next_message (λ m h.
          in_three (x.loans ++ s.next_message ∷ []) x.history boxes m _ h
          (λ k. ⊎_elim (λ old. inr (in_first x.loans x.history boxes m old))
          (λ new. inl (sym (contains_one s.next_message m new)))
          (contains_in_append x.loans (s.next_message ∷ []) m k))
          (λ k. inr (in_second x.loans x.history boxes m k)) (λ k. inr (in_third x.loans x.history boxes m k))) in
          omega (arith, more, free static);
      some_segment = some;
      segments_bound = few;
      blocked = λ b e. let u : BlockedIsWellFormed s p x b = v.blocked b e in record {
        is_out = contains_left x.loans (s.next_message ∷ []) b.message u.is_out;
        unheld = old_loan b.message (v.loans_below b.message u.is_out) ∙ u.unheld;
        ends = u.ends;
        channel = u.channel;
        unserved = u.unserved;
        waits = u.waits;
        count_bound = u.count_bound;
      };
    }

    granted_is_well_formed : LoanIsWellFormed
        (uniform s lender (s.mailboxes p) (put_at s.loans s.next_message (Some (granted default_header s p len)))
        (s.next_message + 1)) s.next_message (granted default_header s p len)
    granted_is_well_formed = let v : PublisherIsWellFormed s p x = w.publishers p x here in record {
      below = omega arith;
      known = v.is_known;
      origin = refl;
      cells = length-replicate (len * (s.config).units_per_element) None;
      complete = λ h. absurd (true≢false (sym h));
      is_out = λ u e. subst (λ (y : Publisher). (contains y.loans s.next_message ≡ true)
          × (contains y.history s.next_message ≡ false)) (same_Some lender u e) (
            contains_right x.loans (s.next_message ∷ []) s.next_message
                (or_left (eqb s.next_message s.next_message) false (eq-eqb s.next_message s.next_message refl)),
            absent_from x.history s.next_message
                (λ h. let low : s.next_message < s.next_message = v.history_below s.next_message h in omega arith),
          );
      unsent = λ q. absent_from (numbers_in (s.mailboxes p q)) s.next_message
          (λ h. let low : s.next_message < s.next_message = (w.mailboxes p q).below s.next_message h in omega arith);
    }

    -- a loan that is granted within the publisher's limits
    loan_granted_keeps : length x.loans < x.max_loaned_samples
        → (is_static x.allocation_strategy ≡ true → size (held s p x) < x.slots) → 0 < segments
        → segments ≤ segment_limit
        → IsWellFormed (loan_granted default_header s p x len segments)
    loan_granted_keeps room free some few = subst IsWellFormed granted_is
        (altered_keeps s p x lender (s.mailboxes p)
        (put_at s.loans s.next_message (Some (granted default_header s p len))) (s.next_message + 1) w here refl
        (omega arith)
        (lender_is_well_formed room free some few)
        (λ q. mailbox_stays s p x lender (s.mailboxes p)
        (put_at s.loans s.next_message (Some (granted default_header s p len))) (s.next_message + 1) here
        (omega arith) q refl refl (w.mailboxes p q))
        (λ q h. h)
        (λ m u e. found_put s.loans s.next_message (granted default_header s p len)
        (λ i l. ((s.loans i ≡ Some l) × (eqb l.publisher p ≡ false))
        ⊎ ((l.publisher ≡ p) × LoanIsWellFormed
        (uniform s lender (s.mailboxes p) (put_at s.loans s.next_message (Some (granted default_header s p len)))
        (s.next_message + 1)) i l)) m u e
        (λ _. inr (refl, granted_is_well_formed))
        (λ _ e. elim (eqb u.publisher p) as (λ b. eqb u.publisher p ≡ b
        → ((s.loans m ≡ Some u) × (b ≡ false)) ⊎ ((u.publisher ≡ p)
        × LoanIsWellFormed
        (uniform s lender (s.mailboxes p) (put_at s.loans s.next_message (Some (granted default_header s p len)))
        (s.next_message + 1)) m u)) [
          | true ↦ λ same. inr (
            eqb-true u.publisher p same,
            loan_stays s p x lender (s.mailboxes p)
                (put_at s.loans s.next_message (Some (granted default_header s p len))) (s.next_message + 1) here
                (omega arith) m u
                (eqb-true u.publisher p same) (contains_left x.loans (s.next_message ∷ []) m) (λ h. h) (λ q h. h)
                (w.loans m u e),
          )
          | false ↦ λ _. inl (e, refl)
        ] refl))
        (λ m u e _. old_loan m ((w.loans m u e).below) ∙ e)
        (λ m low e. old_loan m low ∙ e))

  module _ (environment : Environment) (default_header : U) (checks_length : Bool) (len : ℕ) (s : State T U) (p : ℕ)
      (s' : State T U) where
    -- a grant keeps a state well-formed
    pub grant_loan_keeps : (refusal : Option LoanError) → IsWellFormed s
        → GrantLoan environment default_header checks_length len s p s' refusal → IsWellFormed s'
    grant_loan_keeps refusal w h =
        grant_cases environment default_header checks_length len s p s' (IsWellFormed s') refusal h
        (λ e same _. subst IsWellFormed (sym same) w)
        (λ x here g. let v : PublisherIsWellFormed s p x = w.publishers p x here in
        subst IsWellFormed (sym g.4) (loan_granted_keeps default_header s w p x here len g.0 g.2
        (λ static. let bound : size (held s p x) ≤ x.slots = v.slots_bound static in
        let apart : size (held s p x) ≡ x.slots → ⊥ = eqb-false (size (held s p x)) x.slots (g.3 static) in omega arith)
        (⊎_elim (λ same. omega (arith, v.some_segment, same)) (λ more. omega (arith, more.0)) g.1)
        (⊎_elim (λ same. omega (arith, v.segments_bound, same)) (λ more. omega (arith, more.0, more.1)) g.1)))

    -- a grant advances the state
    pub grant_loan_advances : (refusal : Option LoanError)
        → GrantLoan environment default_header checks_length len s p s' refusal → Advances s s'
    grant_loan_advances refusal =
        grant_by_steps Advances advance environment default_header checks_length len s p s' refusal
        (λ x here segments. record { config = refl; next_port = le_refl s.next_port; next_message = omega arith })

    -- a loan blocks no publisher
    pub grant_loan_unblocked : (refusal : Option LoanError)
        → GrantLoan environment default_header checks_length len s p s' refusal → is_blocked s p ≡ false
        → is_blocked s' p ≡ false
    grant_loan_unblocked refusal h unblocked =
        grant_cases environment default_header checks_length len s p s' (is_blocked s' p ≡ false) refusal h
        (λ e same _. subst (λ (t : State T U). is_blocked t p ≡ false) (sym same) unblocked)
        (λ x here g. subst (λ (t : State T U). is_blocked t p ≡ false) (sym g.4)
        (ap (λ (o : Option Publisher). option_map_or (λ (v : Publisher). is_some v.blocked) o false)
        (put_at-same s.publishers p
        (Some (record x
        { loans = x.loans ++ s.next_message ∷ []; longest_granted = max x.longest_granted len; segments = g.0 })))
        ∙ subst (λ (o : Option Publisher). option_map_or (λ (v : Publisher). is_some v.blocked) o false ≡ false) here
        unblocked))

    -- what was granted is there, unwritten, and in its publisher's name
    pub grant_loan_finds : (refusal : Option LoanError)
        → GrantLoan environment default_header checks_length len s p s' refusal → refusal ≡ None
        → (l : Loan T U) × (s'.loans s.next_message ≡ Some l) × (l.publisher ≡ p) × (l.is_written ≡ false)
        × (s.next_message < s'.next_message)
    grant_loan_finds refusal h none = grant_cases environment default_header checks_length len s p s' _ refusal h
        (λ e same some. absurd (none-some e (sym none ∙ some)))
        (λ x here g. subst (λ (t : State T U). (l : Loan T U) × (t.loans s.next_message ≡ Some l) × (l.publisher ≡ p)
        × (l.is_written ≡ false)
        × (s.next_message < t.next_message)) (sym g.4) (
          granted default_header s p len,
          put_at-same s.loans s.next_message (Some (granted default_header s p len)),
          refl,
          refl,
          omega arith,
        ))

  -- ---- a loan is granted with every cell written

  module _ (environment : Environment) (default_value : T) (default_header : U) (checks_length : Bool) (len : ℕ)
      (s : State T U) (p : ℕ) (s' : State T U) where
    -- a grant with every cell written keeps a state well-formed
    pub grant_written_loan_keeps : (refusal : Option LoanError) → IsWellFormed s
        → GrantWrittenLoan environment default_value default_header checks_length len s p s' refusal → IsWellFormed s'
    grant_written_loan_keeps refusal w h =
        let v : IsWellFormed h.0 =
        grant_loan_keeps environment default_header checks_length len s p h.0 refusal w h.1 in
        by_option (IsWellFormed s') refusal _ _ h.2
        (λ _ k. by_option (IsWellFormed s') ((h.0).loans s.next_message) _ _ k (λ _ v. absurd v)
        (λ l found e. subst IsWellFormed (sym e) (loan_written_keeps h.0 v s.next_message l found default_value)))
        (λ e _ k. subst IsWellFormed (sym k) v)

    -- a grant with every cell written advances the state
    pub grant_written_loan_advances : (refusal : Option LoanError)
        → GrantWrittenLoan environment default_value default_header checks_length len s p s' refusal
        → Advances s s'
    grant_written_loan_advances refusal h =
        let v : Advances s h.0 = grant_loan_advances environment default_header checks_length len s p h.0 refusal h.1 in
        by_option (Advances s s') refusal _ _ h.2
        (λ _ k. by_option (Advances s s') ((h.0).loans s.next_message) _ _ k (λ _ v. absurd v)
        (λ l found e. subst (Advances s) (sym e)
        (record { config = v.config; next_port = v.next_port; next_message = v.next_message })))
        (λ e _ k. subst (Advances s) (sym k) v)

    -- a loan with every cell written blocks no publisher
    pub grant_written_loan_unblocked : (refusal : Option LoanError)
        → GrantWrittenLoan environment default_value default_header checks_length len s p s' refusal
        → is_blocked s p ≡ false → is_blocked s' p ≡ false
    grant_written_loan_unblocked refusal h unblocked =
        let v : is_blocked h.0 p ≡ false =
        grant_loan_unblocked environment default_header checks_length len s p h.0 refusal h.1 unblocked in
        by_option (is_blocked s' p ≡ false) refusal _ _ h.2
        (λ _ k. by_option (is_blocked s' p ≡ false) ((h.0).loans s.next_message) _ _ k (λ _ v. absurd v)
        (λ l found e. subst (λ (t : State T U). is_blocked t p ≡ false) (sym e) v))
        (λ e _ k. subst (λ (t : State T U). is_blocked t p ≡ false) (sym k) v)

    -- what was granted with every cell written is there, written, and in its publisher's name
    pub grant_written_loan_finds : (refusal : Option LoanError)
        → GrantWrittenLoan environment default_value default_header checks_length len s p s' refusal
        → refusal ≡ None
        → (l : Loan T U) × (s'.loans s.next_message ≡ Some l) × (l.publisher ≡ p) × (l.is_written ≡ true)
        × (s.next_message < s'.next_message)
    grant_written_loan_finds refusal h none =
        let there : (l : Loan T U) × ((h.0).loans s.next_message ≡ Some l) × (l.publisher ≡ p) × (l.is_written ≡ false)
        × (s.next_message < (h.0).next_message) =
        grant_loan_finds environment default_header checks_length len s p h.0 refusal h.1 none in
        by_option _ ((h.0).loans s.next_message) _ _
        (subst (λ r. MatchOption r (MatchOption ((h.0).loans s.next_message) ⊥
        (λ l. s' ≡ with_loan h.0 s.next_message (Some (written l default_value))))
        (λ _. s' ≡ h.0)) none h.2)
        (λ _ v. absurd v)
        (λ l found e. subst (λ (t : State T U). (k : Loan T U) × (t.loans s.next_message ≡ Some k) × (k.publisher ≡ p)
        × (k.is_written ≡ true)
        × (s.next_message < t.next_message)) (sym e) (
          written l default_value,
          put_at-same (h.0).loans s.next_message (Some (written l default_value)),
          ap (λ (k : Loan T U). k.publisher) (same_Some l there.0 (sym found ∙ there.1)) ∙ there.2,
          refl,
          there.4,
        ))

    -- the loan that is found under the number granted is that publisher's
    pub grant_written_loan_publisher : (refusal : Option LoanError) (l : Loan T U) → refusal ≡ None
        → s'.loans s.next_message ≡ Some l
        → GrantWrittenLoan environment default_value default_header checks_length len s p s' refusal
        → l.publisher ≡ p
    grant_written_loan_publisher refusal l none found h =
        let there : (k : Loan T U) × (s'.loans s.next_message ≡ Some k) × (k.publisher ≡ p) × (k.is_written ≡ true)
        × (s.next_message < s'.next_message) =
        grant_written_loan_finds refusal h none in
        ap (λ (k : Loan T U). k.publisher) (same_Some l there.0 (sym found ∙ there.1)) ∙ there.2
