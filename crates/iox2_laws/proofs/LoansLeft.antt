-- What operations leave of the loans that publishers may still take.
use Rattle.std.proofs.Common.{◌≡◌, ℕ, suc, ◌+◌, ◌<◌, ◌≤◌, Bool, true, false, List, [], ◌∷◌, ◌++◌, length, refl, sym, ap}
use Rattle.std.proofs.Common.{subst, ◌∙◌, arith, Option, None, Some}
use Rattle.std.specs.Prelude.{◌≢◌, max}
use Rattle.std.specs.Option.{option_map}
use Rattle.std.proofs.lemmas.Bool.{ne_eqb}
use Rattle.std.proofs.lemmas.List.{length-append}
use Rattle.std.proofs.lemmas.Option.{none-some, same_Some}
use Rattle.iox2_machine.specs.machine.Limits.{worst_case}
use Rattle.iox2_machine.specs.machine.Numbers.{put_at, contains, without, last_n}
use Rattle.iox2_machine.specs.machine.Mailbox.{Mailbox}
use Rattle.iox2_machine.specs.machine.Records.{Loan, Publisher, Subscriber, Environment, BlockedSend, PublisherSettings}
use Rattle.iox2_machine.specs.machine.Records.{SubscriberSettings}
use Rattle.iox2_machine.specs.machine.State.{State, with_loan, publisher_changed, receiver_channels_reset, with_warning}
use Rattle.iox2_machine.specs.machine.PublisherUpdate.{UpdatePublisher}
use Rattle.iox2_machine.specs.machine.SubscriberUpdate.{UpdateSubscriber}
use Rattle.iox2_machine.specs.machine.Loans.{GrantLoan, is_static, loan_granted, loan_discarded}
use Rattle.iox2_machine.specs.machine.LoansLeft.{CanLend, LendsWithoutGrowth}
use Rattle.iox2_machine.specs.machine.Ports.{CreatePublisher, CreateSubscriber, FirstPublisherUpdate}
use Rattle.iox2_machine.specs.machine.Ports.{with_new_publisher, with_new_subscriber, new_publisher, slots_for}
use Rattle.iox2_machine.specs.machine.Ports.{publisher_closed, subscriber_shut, subscriber_closed}
use Rattle.iox2_machine.specs.machine.Receives.{ReceiveResult, Receive}
use Rattle.iox2_machine.specs.machine.Releases.{place_freed, unborrowed, subscriber_pruned, freed_if_unused, released}
use Rattle.std.specs.declared.time.Duration.{Duration}
use Rattle.iox2_machine.specs.machine.Sends.{Send, Retry, GiveUp, SendResult, Blocked_send, Send_error, published}
use Rattle.iox2_machine.specs.machine.Sends.{with_mailboxes, send_ended}
use Rattle.iox2_machine.specs.declared.errors.SendError.{SendError}
use Rattle.iox2_machine.specs.machine.WellFormed.{IsWellFormed}
use Rattle.iox2_machine.specs.declared.errors.ConnectionFailure.{ConnectionFailure}
use Rattle.iox2_machine.specs.declared.errors.PublisherCreateError.{PublisherCreateError}
use Rattle.iox2_machine.specs.declared.errors.SubscriberCreateError.{SubscriberCreateError}
use Rattle.iox2_machine.specs.declared.warning.Warning.{Warning}
use Rattle.iox2_machine.specs.declared.warning.Warning.TheVariants.{PublisherPartlyConnected}
use Rattle.iox2_machine.specs.declared.service_config.ServiceConfig.{ServiceConfig}
use Rattle.iox2_machine.specs.declared.service_config.TypeVariant.TheVariants.{FixedSize}
use Rattle.iox2_laws.proofs.OperationWalks.{IsPreorder, DeliverySteps, publisher_update_by_steps}
use Rattle.iox2_laws.proofs.OperationWalks.{subscriber_update_by_steps, first_update_by_steps}
use Rattle.iox2_laws.proofs.OperationWalks.{create_publisher_by_steps, create_subscriber_by_steps, receive_by_steps}
use Rattle.iox2_laws.proofs.OperationWalks.{forgotten_by_steps, retry_by_steps, give_up_by_steps, send_by_steps}
use Rattle.iox2_laws.proofs.CallCases.{grant_cases, publisher_cases}
use Rattle.iox2_laws.proofs.NumberLemmas.{length-without}
use Rattle.iox2_laws.proofs.PortsClose.{publisher_closed_others}
use Rattle.iox2_laws.proofs.Puts.{at_each, put_at-same, put_at-other}

-- ---- one publisher

-- The publisher has the same limits of loans and of their lengths, the same slots and the same loans out.
pub record KeepsTerms (x x' : Publisher) : Type 0 where
  pub allocation : x'.allocation_strategy ≡ x.allocation_strategy
  pub most : x'.max_loaned_samples ≡ x.max_loaned_samples
  pub slots : x'.slots ≡ x.slots
  pub longest : x'.initial_max_slice_len ≡ x.initial_max_slice_len
  pub loans : x'.loans ≡ x.loans

same_terms : (x : Publisher) → KeepsTerms x x
same_terms x = record { allocation = refl; most = refl; slots = refl; longest = refl; loans = refl }

terms_trans : (x y z : Publisher) → KeepsTerms x y → KeepsTerms y z → KeepsTerms x z
terms_trans x y z a b = record {
  allocation = b.allocation ∙ a.allocation;
  most = b.most ∙ a.most;
  slots = b.slots ∙ a.slots;
  longest = b.longest ∙ a.longest;
  loans = b.loans ∙ a.loans;
}

-- what is found under an id afterwards
abbrev Kept_at : Publisher → Option Publisher → Type 0
Kept_at x v = (x' : Publisher) × (v ≡ Some x') × KeepsTerms x x'

put_terms : (f : ℕ → Option Publisher) (i : ℕ) (z : Publisher) → ((x : Publisher) → f i ≡ Some x → KeepsTerms x z)
    → (p : ℕ) (x : Publisher) → f p ≡ Some x → Kept_at x (put_at f i (Some z) p)
put_terms f i z keeps p x e = at_each f i (Some z) (λ k v. f k ≡ Some x → Kept_at x v) p
    (λ here old. (z, refl, keeps x old)) (λ apart old. (x, old, same_terms x)) e

changed_terms : (f : ℕ → Option Publisher) (i : ℕ) (change : Publisher → Publisher)
    → ((x : Publisher) → KeepsTerms x (change x)) → (p : ℕ) (x : Publisher) → f p ≡ Some x
    → Kept_at x (put_at f i (option_map change (f i)) p)
changed_terms f i change keeps p x e =
    at_each f i (option_map change (f i)) (λ k v. f k ≡ Some x → Kept_at x v) p
    (λ here old. (change x, ap (option_map change) old, keeps x)) (λ apart old. (x, old, same_terms x)) e

module _ {T U : Type 0} where
  -- a publisher with the same terms lends single values as before
  pub values_kept : (s s' : State T U) (x x' : Publisher) → s'.config ≡ s.config
      → x'.allocation_strategy ≡ x.allocation_strategy → x'.initial_max_slice_len ≡ x.initial_max_slice_len
      → LendsWithoutGrowth s x → LendsWithoutGrowth s' x'
  values_kept s s' x x' config allocation longest lends = λ grows single.
      subst (λ (n : ℕ). 1 ≤ n) (sym longest)
      (lends (sym (ap is_static allocation) ∙ grows) (sym (ap (λ (c : ServiceConfig). c.variant) config) ∙ single))

  -- one with as many slots and loans has the worst case of slots as before
  slots_kept : (s s' : State T U) (x x' : Publisher) → s'.config ≡ s.config
      → x'.max_loaned_samples ≡ x.max_loaned_samples → x'.slots ≡ x.slots
      → worst_case s.config x.max_loaned_samples ≤ x.slots → worst_case s'.config x'.max_loaned_samples ≤ x'.slots
  slots_kept s s' x x' config most slots enough =
      subst (λ (k : ℕ). worst_case s'.config x'.max_loaned_samples ≤ k) (sym slots)
      (subst (λ (k : ℕ). worst_case s'.config k ≤ x.slots) (sym most)
      (subst (λ (c : ServiceConfig). worst_case c x.max_loaned_samples ≤ x.slots) (sym config) enough))

  -- ---- what leaves all of them

  -- Each publisher keeps its terms and its loans, and no message number is used.
  pub record LoansKept (s s' : State T U) : Type 0 where
    pub config : s'.config ≡ s.config
    pub numbers : s'.next_message ≡ s.next_message
    pub publishers : (p : ℕ) (x : Publisher) → s.publishers p ≡ Some x → Kept_at x (s'.publishers p)

  pub kept_itself : (s : State T U) → LoansKept s s
  kept_itself s = record { config = refl; numbers = refl; publishers = λ p x e. (x, e, same_terms x) }

  pub kept_trans : (a b c : State T U) → LoansKept a b → LoansKept b c → LoansKept a c
  kept_trans a b c h k = record {
    config = k.config ∙ h.config;
    numbers = k.numbers ∙ h.numbers;
    publishers = λ p x e. let y = h.publishers p x e in let z = k.publishers p y.0 y.1 in
        (z.0, z.1, terms_trans x y.0 z.0 y.2 z.2);
  }

  keep : IsPreorder LoansKept
  keep = record { itself = kept_itself; trans = kept_trans }

  pub set_kept : (s : State T U) (n : ℕ) (l : Option (Loan T U)) → LoansKept s (with_loan s n l)
  set_kept s n l = record { config = refl; numbers = refl; publishers = λ p x e. (x, e, same_terms x) }

  changed_kept : (s : State T U) (i : ℕ) (change : Publisher → Publisher) → ((x : Publisher) → KeepsTerms x (change x))
      → LoansKept s (publisher_changed s i change)
  changed_kept s i change keeps =
      record { config = refl; numbers = refl; publishers = changed_terms s.publishers i change keeps }

  pub update_publisher_kept : (environment : Environment) (s : State T U) (p : ℕ) (s' : State T U)
      (failure : Option ConnectionFailure) → UpdatePublisher environment s p s' failure → LoansKept s s'
  update_publisher_kept environment s p s' failure =
      publisher_update_by_steps LoansKept keep environment s p s' failure (λ x present side _. record {
        config = refl;
        numbers = refl;
        publishers = put_terms s.publishers p (record x { ends = side.ends; is_due = false })
            (λ z e. subst (λ (v : Publisher). KeepsTerms v (record x { ends = side.ends; is_due = false }))
            (same_Some x z (sym present ∙ e))
            (record { allocation = refl; most = refl; slots = refl; longest = refl; loans = refl }));
      })

  pub update_subscriber_kept : (environment : Environment) (s : State T U) (q : ℕ) (s' : State T U)
      (failure : Option ConnectionFailure) → UpdateSubscriber environment s q s' failure → LoansKept s s'
  update_subscriber_kept environment s q s' failure =
      subscriber_update_by_steps LoansKept keep environment s q s' failure
      (λ y present side _. record { config = refl; numbers = refl; publishers = λ p x e. (x, e, same_terms x) })

  pub receive_kept : (environment : Environment) (s : State T U) (q : ℕ) (s' : State T U) (result : ReceiveResult)
      → Receive environment s q s' result → LoansKept s s'
  receive_kept environment s q s' result =
      receive_by_steps LoansKept keep environment s q s' result (update_subscriber_kept environment s q)
      (λ t p box. record { config = refl; numbers = refl; publishers = λ p x e. (x, e, same_terms x) })

  -- every publisher is due
  due_kept : (s s' : State T U) → s'.config ≡ s.config → s'.next_message ≡ s.next_message
      → s'.publishers ≡ (λ p. option_map {T = Publisher} (λ z. record z { is_due = true }) (s.publishers p))
      → LoansKept s s'
  due_kept s s' config numbers publishers = record {
    config = config;
    numbers = numbers;
    publishers = λ p x e. (
      record x { is_due = true },
      ap (λ (f : ℕ → Option Publisher). f p) publishers
          ∙ ap (option_map {T = Publisher} (λ z. record z { is_due = true })) e,
      record { allocation = refl; most = refl; slots = refl; longest = refl; loans = refl },
    );
  }

  -- a subscriber that forgets publishers is gone where it is unused
  forgotten_kept : (s : State T U) (q : ℕ)
      → LoansKept s (receiver_channels_reset (freed_if_unused (subscriber_pruned s q) q) q)
  forgotten_kept s q =
      forgotten_by_steps LoansKept keep s q
      (λ t. record { config = refl; numbers = refl; publishers = λ p x e. (x, e, same_terms x) })
      (λ t. due_kept t (receiver_channels_reset (place_freed t q) q) refl refl refl)
      (λ t. record { config = refl; numbers = refl; publishers = λ p x e. (x, e, same_terms x) })

  pub released_kept : (s : State T U) (p q n : ℕ) → LoansKept s (released s p q n)
  released_kept s p q n = kept_trans s (unborrowed s p q n) (released s p q n)
      (record { config = refl; numbers = refl; publishers = λ p x e. (x, e, same_terms x) })
      (forgotten_kept (unborrowed s p q n) q)

  pub subscriber_closed_kept : (s : State T U) (q : ℕ) (y : Subscriber) → LoansKept s (subscriber_closed s q y)
  subscriber_closed_kept s q y = kept_trans s (subscriber_shut s q y) (subscriber_closed s q y)
      (due_kept s (subscriber_shut s q y) refl refl refl) (forgotten_kept (subscriber_shut s q y) q)

  warned_kept : (s : State T U) (w : Warning) → LoansKept s (with_warning s w)
  warned_kept s w = record { config = refl; numbers = refl; publishers = λ p x e. (x, e, same_terms x) }

  new_publisher_kept : (s : State T U) → IsWellFormed s → (given : PublisherSettings) (place : ℕ)
      → LoansKept s (with_new_publisher s given place)
  new_publisher_kept s w given place = record {
    config = refl;
    numbers = refl;
    publishers = put_terms s.publishers s.next_port (new_publisher s given place)
        (λ x e. let low : s.next_port < s.next_port = (w.publishers s.next_port x e).is_known in absurd (omega arith));
  }

  -- a publisher is made
  made_kept : (environment : Environment) (s : State T U) (given : PublisherSettings) (place : ℕ) (s' : State T U)
      → FirstPublisherUpdate environment (with_new_publisher s given place) s.next_port s'
      → LoansKept (with_new_publisher s given place) s'
  made_kept environment s given place s' =
      let new : State T U = with_new_publisher s given place in
      first_update_by_steps LoansKept keep new s' (UpdatePublisher environment new s.next_port)
      (PublisherPartlyConnected s.next_port) (update_publisher_kept environment new s.next_port) warned_kept

  pub create_publisher_kept : (environment : Environment) (s : State T U) → IsWellFormed s
      → (given : PublisherSettings) (s' : State T U) (refusal : Option PublisherCreateError)
      → CreatePublisher environment s given s' refusal → LoansKept s s'
  create_publisher_kept environment s w given s' refusal =
      create_publisher_by_steps LoansKept keep environment s given s' refusal (new_publisher_kept s w given)
      (update_publisher_kept environment) warned_kept

  -- The publisher that was made stands, on the terms that it was given.
  pub created_stands : (environment : Environment) (s : State T U) (given : PublisherSettings) (s' : State T U)
      → CreatePublisher environment s given s' None
      → (place : ℕ) × Kept_at (new_publisher s given place) (s'.publishers s.next_port) × (s'.config ≡ s.config)
  created_stands environment s given s' h =
      publisher_cases environment s given s' ((place : ℕ)
      × Kept_at (new_publisher s given place) (s'.publishers s.next_port) × (s'.config ≡ s.config)) None h
      (λ e _ some. absurd (none-some e some))
      (λ place makes.
      let kept : LoansKept (with_new_publisher s given place) s' = made_kept environment s given place s' makes.2 in (
        place,
        kept.publishers s.next_port (new_publisher s given place)
            (put_at-same s.publishers s.next_port (Some (new_publisher s given place))),
        kept.config,
      ))

  -- A publisher that was made has all of its loans left, where it has the worst case of slots, and lends single values
  -- where messages are such.
  pub created_lends : (environment : Environment) (s : State T U) (given : PublisherSettings) (s' : State T U)
      → (is_static given.allocation_strategy ≡ false → (s.config).variant ≡ FixedSize → 1 ≤ given.initial_max_slice_len)
      → worst_case s.config given.max_loaned_samples ≤ slots_for s.config given
      → CreatePublisher environment s given s' None → CanLend s' s.next_port given.max_loaned_samples
  created_lends environment s given s' values slots h =
      let made = created_stands environment s given s' h in
      let there = made.1 in
      let terms : KeepsTerms (new_publisher s given made.0) there.0 = there.2 in
      let none : length (there.0).loans ≡ 0 = ap (λ (ns : List ℕ). length ns) terms.loans in
      record {
        port = there.0;
        stands = there.1;
        slots = slots_kept s s' (new_publisher s given made.0) there.0 made.2 terms.most terms.slots slots;
        few = omega (arith, none, terms.most);
        values = values_kept s s' (new_publisher s given made.0) there.0 made.2 terms.allocation terms.longest values;
      }

  -- It lends slices of as many elements as it was asked for.
  pub created_longest : (environment : Environment) (s : State T U) (given : PublisherSettings) (s' : State T U)
      → CreatePublisher environment s given s' None
      → (x : Publisher) × (s'.publishers s.next_port ≡ Some x) × (x.initial_max_slice_len ≡ given.initial_max_slice_len)
  created_longest environment s given s' h =
      let made = created_stands environment s given s' h in ((made.1).0, (made.1).1, ((made.1).2).longest)

  -- Its memory grows as it was asked for.
  pub created_grows : (environment : Environment) (s : State T U) (given : PublisherSettings) (s' : State T U)
      → CreatePublisher environment s given s' None
      → (x : Publisher) × (s'.publishers s.next_port ≡ Some x) × (x.allocation_strategy ≡ given.allocation_strategy)
  created_grows environment s given s' h =
      let made = created_stands environment s given s' h in ((made.1).0, (made.1).1, ((made.1).2).allocation)

  pub create_subscriber_kept : (environment : Environment) (s : State T U) (given : SubscriberSettings) (s' : State T U)
      (refusal : Option SubscriberCreateError)
      → CreateSubscriber environment s given s' refusal → LoansKept s s'
  create_subscriber_kept environment s given s' refusal =
      create_subscriber_by_steps LoansKept keep environment s given s' refusal
      (λ place. due_kept s (with_new_subscriber s given place) refl refl refl)
      (update_subscriber_kept environment) warned_kept

  -- ---- what leaves the loans that may be taken

  -- where a publisher keeps its terms and its loans
  kept_at_lends : (s s' : State T U) → s'.config ≡ s.config → (p n : ℕ) (can : CanLend s p n)
      → Kept_at can.port (s'.publishers p) → CanLend s' p n
  kept_at_lends s s' config p n can there =
      let terms : KeepsTerms can.port there.0 = there.2 in
      let loans : length (there.0).loans ≡ length (can.port).loans = ap (λ (ns : List ℕ). length ns) terms.loans in
      record {
        port = there.0;
        stands = there.1;
        slots = slots_kept s s' can.port there.0 config terms.most terms.slots can.slots;
        few = omega (arith, loans, terms.most, can.few);
        values = values_kept s s' can.port there.0 config terms.allocation terms.longest can.values;
      }

  -- where terms and loans are kept
  pub kept_lends : (s s' : State T U) → LoansKept s s' → (p n : ℕ) → CanLend s p n → CanLend s' p n
  kept_lends s s' h p n can = kept_at_lends s s' h.config p n can (h.publishers p can.port can.stands)

  -- another publisher's close
  pub closed_lends : (s : State T U) (p : ℕ) (x : Publisher) (i n : ℕ) → i ≢ p → CanLend s i n
      → CanLend (publisher_closed s p x) i n
  closed_lends s p x i n away can = record {
    port = can.port;
    stands = publisher_closed_others s p x i away ∙ can.stands;
    slots = can.slots;
    few = can.few;
    values = can.values;
  }

  -- ---- a loan is granted

  -- A loan more of p is out, under the next number; other publishers are as they were.
  pub record LoanTaken (p : ℕ) (s s' : State T U) : Type 0 where
    pub config : s'.config ≡ s.config
    pub numbers : s'.next_message ≡ s.next_message + 1
    pub own : (n : ℕ) → CanLend s p (n + 1) → CanLend s' p n
    pub longest : (x : Publisher) → s.publishers p ≡ Some x
        → (x' : Publisher) × (s'.publishers p ≡ Some x') × (x'.initial_max_slice_len ≡ x.initial_max_slice_len)
    pub others : (i : ℕ) → i ≢ p → s'.publishers i ≡ s.publishers i

  granted_taken : (default_header : U) (s : State T U) (p : ℕ) (x : Publisher) → s.publishers p ≡ Some x
      → (len segments : ℕ) → LoanTaken p s (loan_granted default_header s p x len segments)
  granted_taken default_header s p x present len segments = record {
    config = refl;
    numbers = refl;
    own = λ n can.
        let same : x ≡ can.port = same_Some x can.port (sym present ∙ can.stands) in
        let few : length (can.port).loans + (n + 1) ≤ (can.port).max_loaned_samples = can.few in
        let of_x : length x.loans + (n + 1) ≤ x.max_loaned_samples =
        subst (λ (z : Publisher). length z.loans + (n + 1) ≤ z.max_loaned_samples) (sym same) few in
        record {
          port = record x {
            loans = x.loans ++ s.next_message ∷ [];
            longest_granted = max x.longest_granted len;
            segments = segments;
          };
          stands = put_at-same s.publishers p _;
          slots = subst (λ (z : Publisher). worst_case s.config z.max_loaned_samples ≤ z.slots) (sym same) can.slots;
          few = omega (arith, length-append x.loans (s.next_message ∷ []), of_x);
          values = subst (λ (z : Publisher). LendsWithoutGrowth s z) (sym same) can.values;
        };
    longest = λ y at. (
      record x
          { loans = x.loans ++ s.next_message ∷ []; longest_granted = max x.longest_granted len; segments = segments },
      put_at-same s.publishers p _,
      ap (λ (z : Publisher). z.initial_max_slice_len) (same_Some x y (sym present ∙ at)),
    );
    others = λ i away. put_at-other s.publishers p _ i (ne_eqb i p away);
  }

  pub loan_taken : (environment : Environment) (default_header : U) (checks_length : Bool) (len : ℕ) (s : State T U)
      (p : ℕ) (s' : State T U)
      → GrantLoan environment default_header checks_length len s p s' None → LoanTaken p s s'
  loan_taken environment default_header checks_length len s p s' h =
      grant_cases environment default_header checks_length len s p s' (LoanTaken p s s') None h
      (λ e _ some. absurd (none-some e some))
      (λ x present grants.
      subst (LoanTaken p s) (sym grants.4) (granted_taken default_header s p x present len grants.0))

  -- ---- a loan ends

  -- The loan n of p is out no more; nothing else changes of the loans that may be taken.
  pub record LoanEnds (p n : ℕ) (s s' : State T U) : Type 0 where
    pub config : s'.config ≡ s.config
    pub numbers : s'.next_message ≡ s.next_message
    pub own : (x : Publisher) → s.publishers p ≡ Some x
        → (x' : Publisher) × (s'.publishers p ≡ Some x') × (x'.allocation_strategy ≡ x.allocation_strategy)
        × (x'.max_loaned_samples ≡ x.max_loaned_samples) × (x'.slots ≡ x.slots) × (x'.loans ≡ without n x.loans)
        × (x'.initial_max_slice_len ≡ x.initial_max_slice_len)
    pub others : (i : ℕ) (x : Publisher) → i ≢ p → s.publishers i ≡ Some x → Kept_at x (s'.publishers i)

  pub kept_ends : (p n : ℕ) (a b c : State T U) → LoansKept a b → LoanEnds p n b c → LoanEnds p n a c
  kept_ends p n a b c h k = record {
    config = k.config ∙ h.config;
    numbers = k.numbers ∙ h.numbers;
    own = λ x e.
        let y = h.publishers p x e in
        let z = k.own y.0 y.1 in
        let terms : KeepsTerms x y.0 = y.2 in (
          z.0,
          z.1,
          z.2 ∙ terms.allocation,
          z.3 ∙ terms.most,
          z.4 ∙ terms.slots,
          z.5 ∙ ap (without n) terms.loans,
          z.6 ∙ terms.longest,
        );
    others = λ i x away e. let y = h.publishers i x e in let z = k.others i y.0 away y.1 in
        (z.0, z.1, terms_trans x y.0 z.0 y.2 z.2);
  }

  -- where its publisher is gone
  pub kept_gone : (p n : ℕ) (s s' : State T U) → s.publishers p ≡ None → LoansKept s s' → LoanEnds p n s s'
  kept_gone p n s s' gone h = record {
    config = h.config;
    numbers = h.numbers;
    own = λ x e. absurd (none-some x (sym gone ∙ e));
    others = λ i x away e. h.publishers i x e;
  }

  returned_ends : (s : State T U) (p n : ℕ)
      → LoanEnds p n s (publisher_changed s p (λ x. record x { loans = without n x.loans }))
  returned_ends s p n = record {
    config = refl;
    numbers = refl;
    own = λ x e. (
      record x { loans = without n x.loans },
      put_at-same s.publishers p _
          ∙ ap (option_map (λ (x : Publisher). record x { loans = without n x.loans })) e,
      refl,
      refl,
      refl,
      refl,
      refl,
    );
    others = λ i x away e. (x, put_at-other s.publishers p _ i (ne_eqb i p away) ∙ e, same_terms x);
  }

  ended_ends : (s : State T U) (p n : ℕ) → LoanEnds p n s (send_ended s p n)
  ended_ends s p n = record {
    config = refl;
    numbers = refl;
    own = λ x e. (
      record x { loans = without n x.loans; blocked = None },
      put_at-same s.publishers p _
          ∙ ap (option_map (λ (x : Publisher). record x { loans = without n x.loans; blocked = None })) e,
      refl,
      refl,
      refl,
      refl,
      refl,
    );
    others = λ i x away e. (x, put_at-other s.publishers p _ i (ne_eqb i p away) ∙ e, same_terms x);
  }

  pub discarded_ends : (s : State T U) (n : ℕ) (l : Loan T U) → LoanEnds l.publisher n s (loan_discarded s n l)
  discarded_ends s n l = kept_ends l.publisher n s (with_loan s n None) (loan_discarded s n l) (set_kept s n None)
      (returned_ends (with_loan s n None) l.publisher n)

  published_kept : (s : State T U) (p n : ℕ) → LoansKept s (published s p n)
  published_kept s p n =
      kept_trans s (with_loan s n None) (published s p n) (set_kept s n None)
      (changed_kept (with_loan s n None) p
      (λ x. record x { history = last_n (s.config).history_size (x.history ++ n ∷ []) })
      (λ x. record { allocation = refl; most = refl; slots = refl; longest = refl; loans = refl }))

  mailboxes_kept : (s : State T U) (p : ℕ) (boxes : ℕ → Mailbox) → LoansKept s (with_mailboxes s p boxes)
  mailboxes_kept s p boxes = record { config = refl; numbers = refl; publishers = λ p x e. (x, e, same_terms x) }

  -- a delivery in which the send ends
  pub deliveries_end : (environment : Environment) (p n : ℕ) (result : SendResult) → (result ≡ Blocked_send → ⊥)
      → DeliverySteps {T = T} {U = U} environment p n LoansKept (LoanEnds p n) result
  deliveries_end environment p n result free = record {
    delivers = λ s boxes _. mailboxes_kept s p boxes;
    ended = λ s _. ended_ends s p n;
    blocked = λ s b is. absurd (free is);
  }

  pub send_ends : (environment : Environment) (s : State T U) (n : ℕ) (l : Loan T U) (s' : State T U)
      (result : SendResult) → (result ≡ Blocked_send → ⊥)
      → Send environment s n l s' result → LoanEnds l.publisher n s s'
  send_ends environment s n l s' result free =
      send_by_steps LoansKept (LoanEnds l.publisher n) (kept_ends l.publisher n) environment s n l s' result (record {
        delivery = deliveries_end environment l.publisher n result free;
        updates = λ a. update_publisher_kept environment a l.publisher;
        publishes = λ a. published_kept a l.publisher n;
        lost = λ a gone e _. kept_gone l.publisher n a (with_loan a n None) gone (set_kept a n None);
        discards = λ a k same e _. subst (λ (p : ℕ). LoanEnds p n a (loan_discarded a n k)) same (discarded_ends a n k);
      })

  -- ---- a send that is blocked

  -- a delivery in which the send is blocked
  pub deliveries_keep : (environment : Environment) (p n : ℕ) (result : SendResult) → result ≡ Blocked_send
      → DeliverySteps {T = T} {U = U} environment p n LoansKept LoansKept result
  deliveries_keep environment p n result is = record {
    delivers = λ s boxes _. mailboxes_kept s p boxes;
    ended = λ s no. absurd (no is);
    blocked = λ s b _. changed_kept s p (λ x. record x { blocked = Some b })
        (λ x. record { allocation = refl; most = refl; slots = refl; longest = refl; loans = refl });
  }

  -- its loan still counts
  pub send_blocked_kept : (environment : Environment) (s : State T U) (n : ℕ) (l : Loan T U) (s' : State T U)
      (result : SendResult) → result ≡ Blocked_send
      → Send environment s n l s' result → LoansKept s s'
  send_blocked_kept environment s n l s' result is =
      send_by_steps LoansKept LoansKept kept_trans environment s n l s' result (record {
        delivery = deliveries_keep environment l.publisher n result is;
        updates = λ a. update_publisher_kept environment a l.publisher;
        publishes = λ a. published_kept a l.publisher n;
        lost = λ a _ e k. absurd (failed e k);
        discards = λ a k _ e f. absurd (failed e f);
      })
    where
      failed : (e : SendError) → result ≡ Send_error e → ⊥
      failed e k = let no : Send_error e ≡ Blocked_send = sym k ∙ is in cc

  pub retry_blocked_kept : (environment : Environment) (s : State T U) (p : ℕ) (b : BlockedSend) (elapsed : Duration)
      (s' : State T U) (result : SendResult) → result ≡ Blocked_send
      → Retry environment s p b elapsed s' result → LoansKept s s'
  retry_blocked_kept environment s p b elapsed s' result is =
      retry_by_steps LoansKept LoansKept kept_trans environment s p b elapsed s' result
      (deliveries_keep environment p b.message result is)

  pub give_up_blocked_kept : (environment : Environment) (s : State T U) (p : ℕ) (b : BlockedSend) (s' : State T U)
      (result : SendResult) → result ≡ Blocked_send
      → GiveUp environment s p b s' result → LoansKept s s'
  give_up_blocked_kept environment s p b s' result is =
      give_up_by_steps LoansKept LoansKept kept_trans environment s p b s' result
      (deliveries_keep environment p b.message result is)

  -- until the send ends
  pub retry_ends : (environment : Environment) (s : State T U) (p : ℕ) (b : BlockedSend) (elapsed : Duration)
      (s' : State T U) (result : SendResult) → (result ≡ Blocked_send → ⊥)
      → Retry environment s p b elapsed s' result → LoanEnds p b.message s s'
  retry_ends environment s p b elapsed s' result free =
      retry_by_steps LoansKept (LoanEnds p b.message) (kept_ends p b.message) environment s p b elapsed s' result
      (deliveries_end environment p b.message result free)

  pub give_up_ends : (environment : Environment) (s : State T U) (p : ℕ) (b : BlockedSend) (s' : State T U)
      (result : SendResult) → (result ≡ Blocked_send → ⊥)
      → GiveUp environment s p b s' result → LoanEnds p b.message s s'
  give_up_ends environment s p b s' result free =
      give_up_by_steps LoansKept (LoanEnds p b.message) (kept_ends p b.message) environment s p b s' result
      (deliveries_end environment p b.message result free)

  -- Its publisher, among whose loans it was, may take one loan more.
  pub counted_lends : (p n : ℕ) (s s' : State T U) → IsWellFormed s → (x : Publisher) → s.publishers p ≡ Some x
      → contains x.loans n ≡ true → LoanEnds p n s s'
      → (more : ℕ) → CanLend s p more → CanLend s' p (more + 1)
  counted_lends p n s s' w x stands is_its h more can =
      let there = h.own can.port can.stands in
      let is_out : contains (can.port).loans n ≡ true =
      ap (λ (y : Publisher). contains y.loans n) (same_Some can.port x (sym can.stands ∙ stands)) ∙ is_its in
      let one : suc (length (without n (can.port).loans)) ≡ length (can.port).loans =
      length-without n (can.port).loans (w.publishers p can.port can.stands).loans_once is_out in
      let left : length (there.0).loans ≡ length (without n (can.port).loans) =
      ap (λ (ns : List ℕ). length ns) there.5 in
      record {
        port = there.0;
        stands = there.1;
        slots = slots_kept s s' can.port there.0 h.config there.3 there.4 can.slots;
        few = omega (arith, one, left, there.3, can.few);
        values = values_kept s s' can.port there.0 h.config there.2 there.6 can.values;
      }

  -- so where the loan was in its user's hands
  pub ended_lends : (p n : ℕ) (s s' : State T U) → IsWellFormed s → (l : Loan T U) → s.loans n ≡ Some l
      → l.publisher ≡ p → LoanEnds p n s s'
      → (more : ℕ) → CanLend s p more → CanLend s' p (more + 1)
  ended_lends p n s s' w l out its h more can =
      counted_lends p n s s' w can.port can.stands
      ((w.loans n l out).is_out can.port (ap s.publishers its ∙ can.stands)).0 h more can

  -- and where it waited with a blocked send
  pub waited_lends : (p : ℕ) (s s' : State T U) → IsWellFormed s → (x : Publisher) (b : BlockedSend)
      → s.publishers p ≡ Some x → x.blocked ≡ Some b → LoanEnds p b.message s s'
      → (more : ℕ) → CanLend s p more → CanLend s' p (more + 1)
  waited_lends p s s' w x b stands waits =
      counted_lends p b.message s s' w x stands ((w.publishers p x stands).blocked b waits).is_out

  -- each other publisher may take as many as before
  pub others_lend : (p n : ℕ) (s s' : State T U) → LoanEnds p n s s' → (i more : ℕ) → i ≢ p → CanLend s i more
      → CanLend s' i more
  others_lend p n s s' h i more away can = kept_at_lends s s' h.config i more can (h.others i can.port away can.stands)

-- fewer than may be taken may be taken
pub lends_fewer : {T U : Type 0} (s : State T U) (p n more : ℕ) → n ≤ more → CanLend s p more → CanLend s p n
lends_fewer s p n more low can =
    let few : length (can.port).loans + more ≤ (can.port).max_loaned_samples = can.few in
    record { port = can.port; stands = can.stands; slots = can.slots; few = omega arith; values = can.values }
