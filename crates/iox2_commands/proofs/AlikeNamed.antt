-- What a position names in two states that look alike to a subscriber.
use Rattle.std.proofs.Common.{◌≡◌, ℕ, Bool, true, false, cond, not, List, refl, sym, ap, subst, ◌∙◌, Option, None, Some}
use Rattle.std.proofs.Common.{is_none, is_some, eqb}
use Rattle.std.specs.Prelude.{slice_get, map, nat_lt}
use Rattle.std.specs.Option.{option_map, option_map_or, option_and_then}
use Rattle.std.proofs.lemmas.Bool.{eqb-true, eqb-false, eq-eqb, ne_eqb, true≢false}
use Rattle.std.proofs.lemmas.Option.{none-some, same_Some, slice_get-map}
use Rattle.iox2_machine.specs.machine.Mailbox.{Mailbox, is_borrowed}
use Rattle.iox2_machine.specs.machine.Records.{Loan, Publisher, Subscriber}
use Rattle.iox2_machine.specs.machine.State.{State}
use Rattle.iox2_machine.specs.declared.service_config.TypeVariant.TheVariants.{FixedSize, Dynamic}
use Rattle.iox2_commands.specs.Outcomes.{Handle, No_handle, Publisher_handle, Subscriber_handle, Loan_handle}
use Rattle.iox2_commands.specs.Outcomes.{Blocked_handle, Sample_handle}
use Rattle.iox2_commands.specs.Views.{PublicPart, public_part, seen_handle}
use Rattle.iox2_commands.specs.Isolation.{is_of_others}
use Rattle.iox2_commands.specs.Step.{publisher_at, unblocked_at, subscriber_at, loan_at, unwritten_at, written_at}
use Rattle.iox2_commands.specs.Step.{sendable_at, sample_at, if_single_units, if_fixed_size, if_dynamic, if_channel}
use Rattle.iox2_commands.proofs.Named.{kept_if}
use Rattle.iox2_commands.proofs.AlikeViews.{view_of}
use Rattle.iox2_machine.specs.machine.Limits.{channel_count}

-- ---- handles alone

-- what doesn't read another subscriber's sample reads the same of what is seen
unseen : (q : ℕ) {X : Type 0} (f : Option Handle → X)
    → ((p r n : ℕ) → f (Some (Sample_handle p r n)) ≡ f (Some No_handle)) → (o : Option Handle)
    → f (option_map (seen_handle q) o) ≡ f o
unseen q f blind None = refl
unseen q f blind (Some No_handle) = refl
unseen q f blind (Some (Publisher_handle p)) = refl
unseen q f blind (Some (Subscriber_handle r)) = refl
unseen q f blind (Some (Loan_handle n)) = refl
unseen q f blind (Some (Blocked_handle p n)) = refl
unseen q f blind (Some (Sample_handle p r n)) =
    elim (eqb r q) as (λ b. f (Some (cond b (Sample_handle p r n) No_handle)) ≡ f (Some (Sample_handle p r n)))
    [ true ↦ refl | false ↦ sym (blind p r n) ]

-- The handle is that of the subscriber q.
abbrev pub names_subscriber : (q : ℕ) → Option Handle → Bool
names_subscriber q (Some (Subscriber_handle r)) = eqb r q
names_subscriber q _ = false

-- The handle is that of a sample of the subscriber q.
abbrev pub names_sample : (q : ℕ) → Option Handle → Bool
names_sample q (Some (Sample_handle p r n)) = eqb r q
names_sample q _ = false

-- a handle of q is that
pub named-subscriber : (q : ℕ) (o : Option Handle) → names_subscriber q o ≡ true → o ≡ Some (Subscriber_handle q)
named-subscriber q (Some (Subscriber_handle r)) h = ap (λ k. Some (Subscriber_handle k)) (eqb-true r q h)
named-subscriber q _ h = absurd (true≢false (sym h))

-- a handle of a sample of q names its publisher and message
pub named-sample : (q : ℕ) (o : Option Handle) → names_sample q o ≡ true
    → (p : ℕ) × (n : ℕ) × (o ≡ Some (Sample_handle p q n))
named-sample q (Some (Sample_handle p r n)) h = (p, n, ap (λ k. Some (Sample_handle p k n)) (eqb-true r q h))
named-sample q _ h = absurd (true≢false (sym h))

-- a handle of others is neither
pub others_no_subscriber : (q : ℕ) (o : Option Handle) → is_of_others q o ≡ true → names_subscriber q o ≡ false
others_no_subscriber q (Some (Subscriber_handle r)) h =
    elim (eqb r q) as (λ b. not b ≡ true → b ≡ false) [ true ↦ λ e. sym e | false ↦ λ _. refl ] h
others_no_subscriber q _ h = refl

-- and it is no sample of q
pub others_no_sample : (q : ℕ) (o : Option Handle) → is_of_others q o ≡ true → names_sample q o ≡ false
others_no_sample q (Some (Sample_handle p r n)) h =
    elim (eqb r q) as (λ b. not b ≡ true → b ≡ false) [ true ↦ λ e. sym e | false ↦ λ _. refl ] h
others_no_sample q _ h = refl

-- a subscriber's handle is seen
pub seen_subscriber : (q r : ℕ) (o : Option Handle) → option_map (seen_handle q) o ≡ Some (Subscriber_handle r)
    → o ≡ Some (Subscriber_handle r)
seen_subscriber q r (Some (Sample_handle p k n)) e =
    elim (eqb k q) as (λ b. Some (cond b (Sample_handle p k n) No_handle) ≡ Some (Subscriber_handle r)
    → Some (Sample_handle p k n) ≡ Some (Subscriber_handle r)) [ true ↦ λ e. e | false ↦ λ e. absurd (cc) ] e
seen_subscriber q r None e = e
seen_subscriber q r (Some No_handle) e = e
seen_subscriber q r (Some (Publisher_handle p)) e = e
seen_subscriber q r (Some (Subscriber_handle k)) e = e
seen_subscriber q r (Some (Loan_handle n)) e = e
seen_subscriber q r (Some (Blocked_handle p n)) e = e

-- samples of q that look alike are the same
pub same_sample : (q p p' n n' : ℕ) → option_map (seen_handle q) (Some (Sample_handle p q n)) ≡ option_map
    (seen_handle q) (Some (Sample_handle p' q n'))
    → (p ≡ p') × (n ≡ n')
same_sample q p p' n n' e =
    at (subst (λ (b : Bool). Some (cond b (Sample_handle p q n) No_handle) ≡ Some
    (cond b (Sample_handle p' q n') No_handle)) (eq-eqb q q refl) e)
  where
    at : Some (Sample_handle p q n) ≡ Some (Sample_handle p' q n') → (p ≡ p') × (n ≡ n')
    at f = (cc, cc)

-- ---- the records

abbrev publisher_in : (ℕ → Option Publisher) → Option Handle → Option (ℕ × Publisher)
publisher_in publishers o = elim o [
  | Some (Publisher_handle p) ↦ option_map {U = ℕ × Publisher} (λ x. (p, x)) (publishers p)
  | _ ↦ None
]

abbrev subscriber_in : (ℕ → Option Subscriber) → Option Handle → Option (ℕ × Subscriber)
subscriber_in subscribers o = elim o [
  | Some (Subscriber_handle q) ↦
      option_and_then {U = ℕ × Subscriber} (λ y. cond y.is_open (Some (q, y)) None) (subscribers q)
  | _ ↦ None
]

-- the id alone
abbrev id_in : (ℕ → Option PublicPart) → Option Handle → Option ℕ
id_in others o = elim o [
  | Some (Subscriber_handle r) ↦
      option_and_then {U = ℕ} (λ (part : PublicPart). cond part.is_open (Some r) None) (others r)
  | _ ↦ None
]

abbrev loan_in : {T U : Type 0} → (ℕ → Option (Loan T U)) → Option Handle → Option (ℕ × Loan T U)
loan_in {T} {U} loans o = elim o [
  | Some (Loan_handle n) ↦ option_map {U = ℕ × Loan T U} (λ l. (n, l)) (loans n)
  | _ ↦ None
]

abbrev sample_in : (ℕ → ℕ → Mailbox) → Option Handle → Option (ℕ × ℕ × ℕ)
sample_in boxes o = elim o [
  | Some (Sample_handle p q n) ↦ cond (is_borrowed n (boxes p q)) (Some (p, q, n)) None
  | _ ↦ None
]

-- at a handle of others no publisher stands
no_publisher_in : (q : ℕ) (publishers : ℕ → Option Publisher) (o : Option Handle) → is_of_others q o ≡ true
    → publisher_in publishers o ≡ None
no_publisher_in q publishers (Some (Publisher_handle p)) h = absurd (true≢false (sym h))
no_publisher_in q publishers None h = refl
no_publisher_in q publishers (Some No_handle) h = refl
no_publisher_in q publishers (Some (Subscriber_handle r)) h = refl
no_publisher_in q publishers (Some (Loan_handle n)) h = refl
no_publisher_in q publishers (Some (Blocked_handle p n)) h = refl
no_publisher_in q publishers (Some (Sample_handle p r n)) h = refl

-- a subscriber that is named has that id
named_id : (r : ℕ) (o : Option Subscriber) (named : ℕ × Subscriber)
    → option_and_then {U = ℕ × Subscriber} (λ y. cond y.is_open (Some (r, y)) None) o ≡ Some named → r ≡ named.0
named_id r None named e = absurd (none-some named e)
named_id r (Some y) named e =
    ap (λ (n : ℕ × Subscriber). n.0) (same_Some (r, y) named (kept_if y.is_open (Some (r, y)) named e))

-- a subscriber that is named where q isn't is another
apart_in : (q : ℕ) (subscribers : ℕ → Option Subscriber) (o : Option Handle) (named : ℕ × Subscriber)
    → names_subscriber q o ≡ false
    → subscriber_in subscribers o ≡ Some named → eqb q named.0 ≡ false
apart_in q subscribers (Some (Subscriber_handle r)) named h e =
    ne_eqb q named.0 (λ same. eqb-false r q h (named_id r (subscribers r) named e ∙ sym same))
apart_in q subscribers None named h e = absurd (none-some named e)
apart_in q subscribers (Some No_handle) named h e = absurd (none-some named e)
apart_in q subscribers (Some (Publisher_handle p)) named h e = absurd (none-some named e)
apart_in q subscribers (Some (Loan_handle n)) named h e = absurd (none-some named e)
apart_in q subscribers (Some (Blocked_handle p n)) named h e = absurd (none-some named e)
apart_in q subscribers (Some (Sample_handle p r n)) named h e = absurd (none-some named e)

-- whether a subscriber is named, and its id, is told from public parts
named_in : (subscribers : ℕ → Option Subscriber) (o : Option Handle)
    → option_map {U = ℕ} (λ (n : ℕ × Subscriber). n.0) (subscriber_in subscribers o) ≡ id_in
    (λ r. public_part (subscribers r)) o
named_in subscribers (Some (Subscriber_handle r)) = at (subscribers r)
  where
    at : (v : Option Subscriber) → option_map {U = ℕ} (λ (n : ℕ × Subscriber). n.0)
        (option_and_then {U = ℕ × Subscriber} (λ y. cond y.is_open (Some (r, y)) None) v)
        ≡ option_and_then {U = ℕ} (λ (part : PublicPart). cond part.is_open (Some r) None) (public_part v)
    at None = refl
    at (Some y) = elim y.is_open as (λ b. option_map {U = ℕ} (λ (n : ℕ × Subscriber). n.0)
        (cond b (Some (r, y)) None) ≡ cond b (Some r) None) [ true ↦ refl | false ↦ refl ]
named_in subscribers None = refl
named_in subscribers (Some No_handle) = refl
named_in subscribers (Some (Publisher_handle p)) = refl
named_in subscribers (Some (Loan_handle n)) = refl
named_in subscribers (Some (Blocked_handle p n)) = refl
named_in subscribers (Some (Sample_handle p r n)) = refl

-- a subscriber that is named has its handle there
handle_in : (subscribers : ℕ → Option Subscriber) (o : Option Handle) (named : ℕ × Subscriber)
    → subscriber_in subscribers o ≡ Some named
    → o ≡ Some (Subscriber_handle named.0)
handle_in subscribers (Some (Subscriber_handle r)) named e =
    ap (λ k. Some (Subscriber_handle k)) (named_id r (subscribers r) named e)
handle_in subscribers None named e = absurd (none-some named e)
handle_in subscribers (Some No_handle) named e = absurd (none-some named e)
handle_in subscribers (Some (Publisher_handle p)) named e = absurd (none-some named e)
handle_in subscribers (Some (Loan_handle n)) named e = absurd (none-some named e)
handle_in subscribers (Some (Blocked_handle p n)) named e = absurd (none-some named e)
handle_in subscribers (Some (Sample_handle p r n)) named e = absurd (none-some named e)

-- a sample that is named where none of q is, is another's
sample_apart_in : (q : ℕ) (boxes : ℕ → ℕ → Mailbox) (o : Option Handle) (sample : ℕ × ℕ × ℕ) → names_sample q o ≡ false
    → sample_in boxes o ≡ Some sample
    → eqb q sample.1 ≡ false
sample_apart_in q boxes (Some (Sample_handle p r n)) sample h e =
    ne_eqb q sample.1
    (λ same. eqb-false r q h (ap (λ (k : ℕ × ℕ × ℕ). k.1)
    (same_Some (p, r, n) sample (kept_if (is_borrowed n (boxes p r)) (Some (p, r, n)) sample e)) ∙ sym same))
sample_apart_in q boxes None sample h e = absurd (none-some sample e)
sample_apart_in q boxes (Some No_handle) sample h e = absurd (none-some sample e)
sample_apart_in q boxes (Some (Publisher_handle p)) sample h e = absurd (none-some sample e)
sample_apart_in q boxes (Some (Subscriber_handle r)) sample h e = absurd (none-some sample e)
sample_apart_in q boxes (Some (Loan_handle n)) sample h e = absurd (none-some sample e)
sample_apart_in q boxes (Some (Blocked_handle p n)) sample h e = absurd (none-some sample e)

-- where no sample of q is named, and q's alone may be, none is
no_sample_in : (q : ℕ) (boxes : ℕ → ℕ → Mailbox) (o : Option Handle)
    → ((p r n : ℕ) → o ≡ Some (Sample_handle p r n) → r ≡ q) → names_sample q o ≡ false
    → sample_in boxes o ≡ None
no_sample_in q boxes (Some (Sample_handle p r n)) own h = absurd (eqb-false r q h (own p r n refl))
no_sample_in q boxes None own h = refl
no_sample_in q boxes (Some No_handle) own h = refl
no_sample_in q boxes (Some (Publisher_handle p)) own h = refl
no_sample_in q boxes (Some (Subscriber_handle r)) own h = refl
no_sample_in q boxes (Some (Loan_handle n)) own h = refl
no_sample_in q boxes (Some (Blocked_handle p n)) own h = refl

-- ---- positions in one state

module _ {T U : Type 0} (q : ℕ) (s : State T U) (handles : List Handle) (of : ℕ) where
  -- at a handle of others no publisher stands
  pub no_publisher_at : is_of_others q (slice_get handles of) ≡ true → unblocked_at s handles of ≡ None
  no_publisher_at h = ap (option_and_then (λ (named : ℕ × Publisher). cond (is_none named.1.blocked) (Some named) None))
      (no_publisher_in q s.publishers (slice_get handles of) h)

  -- a subscriber that is named where q isn't is another
  pub subscriber_apart : (named : ℕ × Subscriber) → names_subscriber q (slice_get handles of) ≡ false
      → subscriber_at s handles of ≡ Some named → eqb q named.0 ≡ false
  subscriber_apart named h e = apart_in q s.subscribers (slice_get handles of) named h e

  -- a subscriber that is named has its handle there
  pub subscriber_handle_at : (named : ℕ × Subscriber) → subscriber_at s handles of ≡ Some named
      → slice_get handles of ≡ Some (Subscriber_handle named.0)
  subscriber_handle_at named e = handle_in s.subscribers (slice_get handles of) named e

  -- a sample that is named where none of q is, is another's
  pub sample_apart : (sample : ℕ × ℕ × ℕ) → names_sample q (slice_get handles of) ≡ false
      → sample_at s handles of ≡ Some sample → eqb q sample.1 ≡ false
  sample_apart sample h e = sample_apart_in q s.mailboxes (slice_get handles of) sample h e

  -- where no sample of q is named, and q's alone may be, none is
  pub no_sample_at : ((p r n : ℕ) → slice_get handles of ≡ Some (Sample_handle p r n) → r ≡ q)
      → names_sample q (slice_get handles of) ≡ false → sample_at s handles of ≡ None
  no_sample_at own h = no_sample_in q s.mailboxes (slice_get handles of) own h

  -- the subscriber q, where its handle is
  pub own_at : slice_get handles of ≡ Some (Subscriber_handle q)
      → subscriber_at s handles of ≡ option_and_then {U = ℕ × Subscriber} (λ y. cond y.is_open (Some (q, y)) None)
      (s.subscribers q)
  own_at e = ap (subscriber_in s.subscribers) e

  -- a sample of q, where its handle is
  pub own_sample_at : (p n : ℕ) → slice_get handles of ≡ Some (Sample_handle p q n)
      → sample_at s handles of ≡ cond (is_borrowed n (s.mailboxes p q)) (Some (p, q, n)) None
  own_sample_at p n e = ap (sample_in s.mailboxes) e

-- ---- positions in two states

module _ {T U : Type 0} (q : ℕ) (a b : State T U) (handles handles' : List Handle) (e : view_of q a ≡ view_of q b)
    (same : map (seen_handle q) handles ≡ map (seen_handle q) handles') (of : ℕ) where
  -- what is seen of a position is the same in both
  pub looked_up : option_map (seen_handle q) (slice_get handles of) ≡ option_map (seen_handle q) (slice_get handles' of)
  looked_up = sym (slice_get-map (seen_handle q) handles of) ∙ ap (λ hs. slice_get hs of) same
      ∙ slice_get-map (seen_handle q) handles' of

  -- q is named in both or in neither
  pub names_subscriber_same : names_subscriber q (slice_get handles of) ≡ names_subscriber q (slice_get handles' of)
  names_subscriber_same = sym (unseen q (names_subscriber q) (λ p r n. refl) (slice_get handles of))
      ∙ ap (names_subscriber q) looked_up ∙ unseen q (names_subscriber q) (λ p r n. refl) (slice_get handles' of)

  -- the publisher
  pub publisher_at_same : publisher_at a handles of ≡ publisher_at b handles' of
  publisher_at_same =
      sym (unseen q (publisher_in a.publishers) (λ p r n. refl) (slice_get handles of))
      ∙ (λ i. publisher_in (e i).publishers (looked_up i))
      ∙ unseen q (publisher_in b.publishers) (λ p r n. refl) (slice_get handles' of)

  -- the same subscriber, or none
  pub subscriber_id_same : option_map {U = ℕ} (λ (n : ℕ × Subscriber). n.0) (subscriber_at a handles of) ≡ option_map
      {U = ℕ} (λ (n : ℕ × Subscriber). n.0) (subscriber_at b handles' of)
  subscriber_id_same =
      named_in a.subscribers (slice_get handles of)
      ∙ sym (unseen q (id_in (λ r. public_part (a.subscribers r))) (λ p r n. refl) (slice_get handles of))
      ∙ (λ i. id_in (e i).others (looked_up i))
      ∙ unseen q (id_in (λ r. public_part (b.subscribers r))) (λ p r n. refl) (slice_get handles' of)
      ∙ sym (named_in b.subscribers (slice_get handles' of))

  -- the publisher that isn't blocked
  pub unblocked_at_same : unblocked_at a handles of ≡ unblocked_at b handles' of
  unblocked_at_same = ap
      (option_and_then (λ (named : ℕ × Publisher). cond (is_none named.1.blocked) (Some named) None)) publisher_at_same

  -- the loan
  pub loan_at_same : loan_at a handles of ≡ loan_at b handles' of
  loan_at_same =
      sym (unseen q (loan_in a.loans) (λ p r n. refl) (slice_get handles of))
      ∙ (λ i. loan_in (e i).loans (looked_up i))
      ∙ unseen q (loan_in b.loans) (λ p r n. refl) (slice_get handles' of)

  -- the loan that isn't written
  pub unwritten_at_same : unwritten_at a handles of ≡ unwritten_at b handles' of
  unwritten_at_same =
      ap (option_and_then (λ (named : ℕ × Loan T U). cond named.1.is_written None (Some named))) loan_at_same

  -- the loan that is written
  pub written_at_same : written_at a handles of ≡ written_at b handles' of
  written_at_same =
      ap (option_and_then (λ (named : ℕ × Loan T U). cond named.1.is_written (Some named) None)) loan_at_same

  -- the loan that may be sent
  pub sendable_at_same : sendable_at a handles of ≡ sendable_at b handles' of
  sendable_at_same = λ i. option_and_then (λ (named : ℕ × Loan T U).
      cond (option_map_or (λ (x : Publisher). is_some x.blocked) ((e i).publishers named.1.publisher) false) None
      (Some named)) (written_at_same i)

  -- the service is of the same kind
  pub single_same : {A : Type 0} (o o' : Option A) → o ≡ o' → if_single_units a o ≡ if_single_units b o'
  single_same o o' f = λ i. cond (eqb ((e i).config).units_per_element 1) (f i) None

  -- and for single values
  pub fixed_size_same : {A : Type 0} (o o' : Option A) → o ≡ o' → if_fixed_size a o ≡ if_fixed_size b o'
  fixed_size_same o o' f = λ i. elim ((e i).config).variant [ FixedSize ↦ f i | Dynamic ↦ None ]

  -- or for slices
  pub dynamic_same : {A : Type 0} (o o' : Option A) → o ≡ o' → if_dynamic a o ≡ if_dynamic b o'
  dynamic_same o o' f = λ i. elim ((e i).config).variant [ FixedSize ↦ None | Dynamic ↦ f i ]

  -- and connections have the same channels
  pub channel_same : {A : Type 0} (channel : ℕ) (o o' : Option A) → o ≡ o'
      → if_channel a channel o ≡ if_channel b channel o'
  channel_same channel o o' f = λ i. cond (nat_lt channel (channel_count (e i).config)) (f i) None

  -- a sample of q is named in both or in neither
  pub names_sample_same : names_sample q (slice_get handles of) ≡ names_sample q (slice_get handles' of)
  names_sample_same =
      sym (seen_sample (slice_get handles of)) ∙ ap (names_sample q) looked_up ∙ seen_sample (slice_get handles' of)
    where
      seen_sample : (o : Option Handle) → names_sample q (option_map (seen_handle q) o) ≡ names_sample q o
      seen_sample None = refl
      seen_sample (Some No_handle) = refl
      seen_sample (Some (Publisher_handle p)) = refl
      seen_sample (Some (Subscriber_handle r)) = refl
      seen_sample (Some (Loan_handle n)) = refl
      seen_sample (Some (Blocked_handle p n)) = refl
      seen_sample (Some (Sample_handle p r n)) =
          elim (eqb r q) as (λ b. eqb r q ≡ b → names_sample q
          (Some (cond b (Sample_handle p r n) No_handle)) ≡ eqb r q) [ true ↦ λ _. refl | false ↦ λ t. sym t ] refl
