-- What a position names is in the state.
use Rattle.std.proofs.Common.{◌≡◌, ◌<◌, ℕ, Bool, true, false, cond, List, refl, sym, subst, Option, None, Some, is_none}
use Rattle.std.proofs.Common.{is_some}
use Rattle.std.specs.Prelude.{slice_get, ◌==◌, nat_lt}
use Rattle.std.specs.Option.{option_and_then, option_map, option_map_or}
use Rattle.std.proofs.lemmas.Option.{none-some, same_Some}
use Rattle.std.proofs.lemmas.Bool.{ltb-true}
use Rattle.iox2_machine.specs.machine.Limits.{channel_count}
use Rattle.iox2_machine.specs.machine.Records.{Loan, Publisher, Subscriber, BlockedSend}
use Rattle.iox2_machine.specs.machine.State.{State, is_blocked}
use Rattle.iox2_machine.specs.declared.service_config.TypeVariant.{TypeVariant}
use Rattle.iox2_machine.specs.declared.service_config.TypeVariant.TheVariants.{FixedSize, Dynamic}
use Rattle.iox2_commands.specs.Outcomes.{Handle, Publisher_handle, Subscriber_handle, Loan_handle, Blocked_handle}
use Rattle.iox2_commands.specs.Step.{publisher_at, unblocked_at, subscriber_at, loan_at, unwritten_at, written_at}
use Rattle.iox2_commands.specs.Step.{sendable_at, blocked_at, if_single_units, if_fixed_size, if_dynamic, if_channel}

-- what passes a test is there, and passes it
pub passes : {A : Type 0} (test : A → Bool) (o : Option A) (a : A)
    → option_and_then (λ v. cond (test v) (Some v) None) o ≡ Some a → (o ≡ Some a) × (test a ≡ true)
passes test None a e = absurd (none-some a e)
passes {A} test (Some v) a e =
    elim (test v) as (λ b. test v ≡ b → cond b (Some v) None ≡ Some a → (Some v ≡ Some a) × (test a ≡ true)) [
      | true ↦ λ t e. (e, subst (λ (x : A). test x ≡ true) (same_Some v a e) t)
      | false ↦ λ t e. absurd (none-some a e)
    ] refl e

-- what fails a test is there, and fails it
pub fails : {A : Type 0} (test : A → Bool) (o : Option A) (a : A)
    → option_and_then (λ v. cond (test v) None (Some v)) o ≡ Some a → (o ≡ Some a) × (test a ≡ false)
fails test None a e = absurd (none-some a e)
fails {A} test (Some v) a e =
    elim (test v) as (λ b. test v ≡ b → cond b None (Some v) ≡ Some a → (Some v ≡ Some a) × (test a ≡ false)) [
      | true ↦ λ t e. absurd (none-some a e)
      | false ↦ λ t e. (e, subst (λ (x : A). test x ≡ false) (same_Some v a e) t)
    ] refl e

pub kept_if : {A : Type 0} (b : Bool) (o : Option A) (a : A) → cond b o None ≡ Some a → o ≡ Some a
kept_if true o a e = e
kept_if false o a e = absurd (none-some a e)

-- a record found under an id, paired with it
paired : {A : Type 0} (f : ℕ → Option A) (i : ℕ) (named : ℕ × A)
    → option_map {U = ℕ × A} (λ x. (i, x)) (f i) ≡ Some named → f named.0 ≡ Some named.1
paired {A} f i named e = at (f i) refl e
  where
    at : (v : Option A) → f i ≡ v → option_map {U = ℕ × A} (λ x. (i, x)) v ≡ Some named → f named.0 ≡ Some named.1
    at None g e = absurd (none-some named e)
    at (Some a) g e = subst (λ (n : ℕ × A). f n.0 ≡ Some n.1) (same_Some (i, a) named e) g

module _ {T U : Type 0} (s : State T U) (handles : List Handle) (of : ℕ) where
  pub publisher_is : (named : ℕ × Publisher) → publisher_at s handles of ≡ Some named
      → s.publishers named.0 ≡ Some named.1
  publisher_is named e = at (slice_get handles of) e
    where
      at : (v : Option Handle) → elim v [
        | Some (Publisher_handle p) ↦
            option_map {U = ℕ × Publisher} (λ x. (p, x)) (s.publishers p)
        | _ ↦ None
      ] ≡ Some named → s.publishers named.0 ≡ Some named.1
      at (Some (Publisher_handle p)) e = paired s.publishers p named e
      at _ e = absurd (none-some named e)

  pub unblocked_is : (named : ℕ × Publisher) → unblocked_at s handles of ≡ Some named
      → (s.publishers named.0 ≡ Some named.1) × (is_none named.1.blocked ≡ true)
  unblocked_is named e =
      let both : (publisher_at s handles of ≡ Some named) × (is_none named.1.blocked ≡ true) =
      passes (λ (n : ℕ × Publisher). is_none n.1.blocked) (publisher_at s handles of) named e in
      (publisher_is named both.0, both.1)

  pub subscriber_is : (named : ℕ × Subscriber) → subscriber_at s handles of ≡ Some named
      → s.subscribers named.0 ≡ Some named.1
  subscriber_is named e = at (slice_get handles of) e
    where
      open_one : (q : ℕ) (v : Option Subscriber) → s.subscribers q ≡ v
          → option_and_then {U = ℕ × Subscriber} (λ y. cond y.is_open (Some (q, y)) None) v ≡ Some named
          → s.subscribers named.0 ≡ Some named.1
      open_one q None g e = absurd (none-some named e)
      open_one q (Some y) g e = subst (λ (n : ℕ × Subscriber). s.subscribers n.0 ≡ Some n.1)
          (same_Some (q, y) named (kept_if y.is_open (Some (q, y)) named e)) g

      at : (v : Option Handle) → elim v [
        | Some (Subscriber_handle q) ↦
            option_and_then {U = ℕ × Subscriber} (λ y. cond y.is_open (Some (q, y)) None) (s.subscribers q)
        | _ ↦ None
      ] ≡ Some named → s.subscribers named.0 ≡ Some named.1
      at (Some (Subscriber_handle q)) e = open_one q (s.subscribers q) refl e
      at _ e = absurd (none-some named e)

  pub loan_is : (named : ℕ × Loan T U) → loan_at s handles of ≡ Some named → s.loans named.0 ≡ Some named.1
  loan_is named e = at (slice_get handles of) e
    where
      at : (v : Option Handle) → elim v [
        | Some (Loan_handle n) ↦ option_map {U = ℕ × Loan T U} (λ l. (n, l)) (s.loans n)
        | _ ↦ None
      ] ≡ Some named → s.loans named.0 ≡ Some named.1
      at (Some (Loan_handle n)) e = paired s.loans n named e
      at _ e = absurd (none-some named e)

  pub unwritten_is : (named : ℕ × Loan T U) → unwritten_at s handles of ≡ Some named
      → (s.loans named.0 ≡ Some named.1) × (named.1.is_written ≡ false)
  unwritten_is named e =
      let both : (loan_at s handles of ≡ Some named) × (named.1.is_written ≡ false) =
      fails (λ (n : ℕ × Loan T U). n.1.is_written) (loan_at s handles of) named e in
      (loan_is named both.0, both.1)

  pub written_is : (named : ℕ × Loan T U) → written_at s handles of ≡ Some named
      → (s.loans named.0 ≡ Some named.1) × (named.1.is_written ≡ true)
  written_is named e =
      let both : (loan_at s handles of ≡ Some named) × (named.1.is_written ≡ true) =
      passes (λ (n : ℕ × Loan T U). n.1.is_written) (loan_at s handles of) named e in
      (loan_is named both.0, both.1)

  pub sendable_is : (named : ℕ × Loan T U) → sendable_at s handles of ≡ Some named
      → (s.loans named.0 ≡ Some named.1) × (is_blocked s named.1.publisher ≡ false)
  sendable_is named e =
      let both : (written_at s handles of ≡ Some named) × (is_blocked s named.1.publisher ≡ false) =
      fails (λ (n : ℕ × Loan T U). is_blocked s n.1.publisher) (written_at s handles of) named e in
      ((written_is named both.0).0, both.1)

  -- a blocked send is that of a publisher that is there
  pub blocked_is : (named : ℕ × BlockedSend) → blocked_at s handles of ≡ Some named
      → (x : Publisher) × (s.publishers named.0 ≡ Some x) × (x.blocked ≡ Some named.1)
  blocked_is named e = at (slice_get handles of) e
    where
      send_of : (p n : ℕ) (x : Publisher) → s.publishers p ≡ Some x → (b : Option BlockedSend) → x.blocked ≡ b
          → option_and_then {U = ℕ × BlockedSend} (λ b. cond (b.message == n) (Some (p, b)) None) b ≡ Some named
          → (x : Publisher) × (s.publishers named.0 ≡ Some x) × (x.blocked ≡ Some named.1)
      send_of p n x g None f e = absurd (none-some named e)
      send_of p n x g (Some b) f e =
          subst (λ (m : ℕ × BlockedSend). (x : Publisher) × (s.publishers m.0 ≡ Some x) × (x.blocked ≡ Some m.1))
          (same_Some (p, b) named (kept_if _ (Some (p, b)) named e)) (x, g, f)

      present : (p n : ℕ) (v : Option Publisher) → s.publishers p ≡ v
          → option_and_then {U = ℕ × BlockedSend}
          (λ x. option_and_then {U = ℕ × BlockedSend} (λ b. cond (b.message == n) (Some (p, b)) None) x.blocked) v
          ≡ Some named → (x : Publisher) × (s.publishers named.0 ≡ Some x) × (x.blocked ≡ Some named.1)
      present p n None g e = absurd (none-some named e)
      present p n (Some x) g e = send_of p n x g x.blocked refl e

      at : (v : Option Handle) → elim v [
        | Some (Blocked_handle p n) ↦ option_and_then {U = ℕ × BlockedSend}
            (λ x. option_and_then {U = ℕ × BlockedSend} (λ b. cond (b.message == n) (Some (p, b)) None) x.blocked)
            (s.publishers p)
        | _ ↦ None
      ] ≡ Some named → (x : Publisher) × (s.publishers named.0 ≡ Some x) × (x.blocked ≡ Some named.1)
      at (Some (Blocked_handle p n)) e = present p n (s.publishers p) refl e
      at _ e = absurd (none-some named e)

-- what is named in a service of one kind is named in any
pub in_single_units : {T U A : Type 0} (s : State T U) (o : Option A) (a : A) → if_single_units s o ≡ Some a
    → o ≡ Some a
in_single_units s o a e = kept_if _ o a e

pub in_fixed_size : {T U A : Type 0} (s : State T U) (o : Option A) (a : A) → if_fixed_size s o ≡ Some a → o ≡ Some a
in_fixed_size {T} {U} {A} s o a e = at (s.config).variant e
  where
    at : (v : TypeVariant) → elim v [ FixedSize ↦ o | Dynamic ↦ None ] ≡ Some a → o ≡ Some a
    at FixedSize e = e
    at Dynamic e = absurd (none-some a e)

pub in_dynamic : {T U A : Type 0} (s : State T U) (o : Option A) (a : A) → if_dynamic s o ≡ Some a → o ≡ Some a
in_dynamic {T} {U} {A} s o a e = at (s.config).variant e
  where
    at : (v : TypeVariant) → elim v [ FixedSize ↦ None | Dynamic ↦ o ] ≡ Some a → o ≡ Some a
    at FixedSize e = absurd (none-some a e)
    at Dynamic e = e

-- and so is what is named with a channel, which connections have
pub has_channel : {T U A : Type 0} (s : State T U) (channel : ℕ) (o : Option A) (a : A)
    → if_channel s channel o ≡ Some a → (channel < channel_count s.config) × (o ≡ Some a)
has_channel {T} {U} {A} s channel o a e = at (nat_lt channel (channel_count s.config)) refl e
  where
    at : (b : Bool) → nat_lt channel (channel_count s.config) ≡ b → cond b o None ≡ Some a
        → (channel < channel_count s.config) × (o ≡ Some a)
    at true t e = (ltb-true channel (channel_count s.config) t, e)
    at false t e = absurd (none-some a e)

-- a publisher without a blocked send isn't blocked
pub not_blocked : {T U : Type 0} (s : State T U) (p : ℕ) (x : Publisher) → s.publishers p ≡ Some x
    → is_none x.blocked ≡ true → is_blocked s p ≡ false
not_blocked s p x e f = subst (λ (o : Option Publisher).
    option_map_or (λ (v : Publisher). is_some v.blocked) o false ≡ false) (sym e) (at x.blocked f)
  where
    at : (b : Option BlockedSend) → is_none b ≡ true → is_some b ≡ false
    at None f = refl
    at (Some b) f = sym f
