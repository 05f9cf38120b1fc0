-- One command from two independent states that look alike to a subscriber.
use Rattle.std.proofs.Common.{◌≡◌, ℕ, Bool, true, false, cond, List, refl, sym, ap, subst, ◌∙◌, Option, None, Some, eqb}
use Rattle.std.specs.Prelude.{slice_get, map}
use Rattle.std.specs.Option.{MatchOption, option_and_then, option_map}
use Rattle.std.proofs.lemmas.Bool.{eqb-true, eq-eqb, true≢false}
use Rattle.std.proofs.lemmas.Option.{none-some, same_Some}
use Rattle.iox2_machine.specs.machine.Limits.{buffer_limit}
use Rattle.iox2_machine.specs.machine.Numbers.{put_at}
use Rattle.iox2_machine.specs.machine.Mailbox.{is_borrowed}
use Rattle.iox2_machine.specs.machine.Records.{Entry, Loan, Publisher, Subscriber, BlockedSend, PublisherSettings}
use Rattle.iox2_machine.specs.machine.Records.{SubscriberSettings, Fixed}
use Rattle.iox2_machine.specs.machine.State.{State, Messages, with_loan}
use Rattle.iox2_machine.specs.machine.SubscriberUpdate.{UpdateSubscriber}
use Rattle.iox2_machine.specs.machine.Loans.{GrantLoan, written, with_cell, is_initialized, initialized, entry_of}
use Rattle.iox2_machine.specs.machine.Sends.{Send, SendResult}
use Rattle.iox2_machine.specs.machine.Releases.{released}
use Rattle.iox2_machine.specs.machine.Ports.{CreatePublisher, CreateSubscriber, subscriber_closed}
use Rattle.iox2_machine.specs.declared.service_config.ServiceConfig.{ServiceConfig}
use Rattle.iox2_machine.specs.declared.errors.ConnectionFailure.{ConnectionFailure}
use Rattle.iox2_machine.specs.declared.errors.LoanError.{LoanError}
use Rattle.iox2_machine.specs.declared.errors.SendError.TheVariants.{LoanError as NotLoaned}
use Rattle.iox2_laws.proofs.Cases.{by_option, by_options}
use Rattle.iox2_machine.specs.machine.Environments.{ample_memory}
use Rattle.iox2_commands.specs.Views.{seen_handle}
use Rattle.iox2_commands.specs.Isolation.{IsIndependent, IsIndependentPublisher, HasBorrowedNothing, ClosesUnborrowed}
use Rattle.iox2_commands.specs.Isolation.{reads_at}
use Rattle.iox2_commands.specs.Outcomes.{Handle, Subscriber_handle, Sample_handle, Outcome, replied, done, skipped}
use Rattle.iox2_commands.specs.Step.{Step, after_publisher, after_subscriber, after_loan, after_send, after_receive}
use Rattle.iox2_commands.specs.Step.{after_update, publisher_settings, unblocked_at, subscriber_at, loan_at}
use Rattle.iox2_commands.specs.Step.{unwritten_at, written_at, with_cell_at, sendable_at, blocked_at, sample_at}
use Rattle.iox2_commands.specs.Step.{if_single_units, if_fixed_size, if_dynamic, if_channel, publisher_at}
use Rattle.iox2_commands.specs.Step.{of_subscriber_channel}
use Rattle.iox2_commands.specs.declared.command.Command.{Command}
use Rattle.iox2_commands.specs.declared.command.Command.TheVariants.{Nothing, CreatePublisher as PublisherCommand}
use Rattle.iox2_commands.specs.declared.command.Command.TheVariants.{CreateSubscriber as SubscriberCommand, LoanUninit}
use Rattle.iox2_commands.specs.declared.command.Command.TheVariants.{Loan as LoanDefault, LoanSlice, WriteCell}
use Rattle.iox2_commands.specs.declared.command.Command.TheVariants.{WriteAll, AssumeInit, WriteHeader, SetPayload}
use Rattle.iox2_commands.specs.declared.command.Command.TheVariants.{Send as SendLoan, SendCopy, Discard, Retry, GiveUp}
use Rattle.iox2_commands.specs.declared.command.Command.TheVariants.{Update, Receive, HasSamples, Read, ReadHeader}
use Rattle.iox2_commands.specs.declared.command.Command.TheVariants.{ReadUserHeader, Release, Close}
use Rattle.iox2_commands.specs.declared.command.Command.TheVariants.{SendToConnection as SendLoanTo, ConnectionPlace}
use Rattle.iox2_commands.specs.declared.command.Command.TheVariants.{PublisherChannel, SubscriberChannel}
use Rattle.iox2_commands.specs.declared.reply.Reply.TheVariants.{Unwritten, SendRefused, Cell}
use Rattle.iox2_commands.proofs.Named.{blocked_is, kept_if, in_single_units, has_channel}
use Rattle.iox2_commands.proofs.AlikeViews.{View, view_of}
use Rattle.iox2_commands.proofs.AlikeUpdates.{update_publisher_alike}
use Rattle.iox2_commands.proofs.AlikeReceives.{IsAlike, alike_equal, alike_sym, alike_trans, update_subscriber_alike}
use Rattle.iox2_commands.proofs.AlikeReceives.{receive_alike, after_update_alike, after_question_alike}
use Rattle.iox2_commands.proofs.AlikeSends.{send_alike, loan_discarded_alike, connection_alike}
use Rattle.iox2_commands.proofs.AlikeLoans.{grant_loan_alike, grant_written_loan_alike}
use Rattle.iox2_commands.proofs.AlikePorts.{create_publisher_alike, create_subscriber_alike, publisher_closed_alike}
use Rattle.iox2_commands.proofs.AlikePorts.{released_alike, own_closed_alike}
use Rattle.iox2_commands.proofs.AlikeNamed.{names_subscriber, names_sample, named-subscriber, named-sample, same_sample}
use Rattle.iox2_commands.proofs.AlikeNamed.{subscriber_handle_at, subscriber_apart, own_at, own_sample_at, no_sample_at}
use Rattle.iox2_commands.proofs.AlikeNamed.{looked_up, subscriber_id_same, names_subscriber_same, names_sample_same}
use Rattle.iox2_commands.proofs.AlikeNamed.{unblocked_at_same, loan_at_same, unwritten_at_same, written_at_same}
use Rattle.iox2_commands.proofs.AlikeNamed.{sendable_at_same, single_same, fixed_size_same, dynamic_same}
use Rattle.iox2_commands.proofs.AlikeNamed.{publisher_at_same, channel_same}
use Rattle.iox2_commands.proofs.AlikeCloses.{subscriber_closed_alike}
use Rattle.iox2_commands.proofs.AlikeIndependent.{StaysOpen, grant_written_loan_open}
use Rattle.iox2_machine.specs.machine.Receives.{Receive as Receives}
use Rattle.iox2_commands.specs.declared.reply.Reply.{Reply}
use Rattle.iox2_commands.proofs.HeaderReads.{ReadsHeader}
use Rattle.iox2_commands.proofs.ApartCalls.{read_quiet, header_quiet, receive_of_other, question_of_other}
use Rattle.iox2_commands.proofs.ApartCalls.{update_of_other, release_of_other, channels_of_other}
use Rattle.iox2_commands.proofs.AlikeChannels.{publisher_channel_alike, subscriber_channel_alike}

-- a subscriber that is named under its own id
own_id : (q : ℕ) (o : Option Subscriber) (named : ℕ × Subscriber)
    → option_and_then {U = ℕ × Subscriber} (λ y. cond y.is_open (Some (q, y)) None) o ≡ Some named
    → named.0 ≡ q
own_id q None named e = absurd (none-some named e)
own_id q (Some y) named e =
    sym (ap (λ (n : ℕ × Subscriber). n.0) (same_Some (q, y) named (kept_if y.is_open (Some (q, y)) named e)))

-- two facts by cases on options in which the same is seen
by_images : {A B : Type 0} (f : A → B) (R : Type 0) (o o' : Option A) (P P' : Type 0) (Q Q' : A → Type 0)
    → option_map f o ≡ option_map f o' → MatchOption o P Q → MatchOption o' P' Q'
    → (P → P' → R) → ((x x' : A) → o ≡ Some x → f x ≡ f x' → Q x → Q' x' → R) → R
by_images f R None None P P' Q Q' e h k none some = none h k
by_images f R (Some x) (Some x') P P' Q Q' e h k none some = some x x' refl (same_Some (f x) (f x') e) h k
by_images f R None (Some x') P P' Q Q' e h k none some = absurd (none-some (f x') e)
by_images f R (Some x) None P P' Q Q' e h k none some = absurd (none-some (f x) (sym e))

module _ {T U : Type 0} where
  -- an independent state's parts
  pub open_of : (q : ℕ) (s : State T U) → IsIndependent q s → StaysOpen q s
  open_of q s k = record { publishers = k.publishers; all_open = k.all_open }

  -- in an independent state no send is blocked
  pub none_blocked : (q : ℕ) (s : State T U) (handles : List Handle) (of : ℕ) (named : ℕ × BlockedSend)
      → IsIndependent q s → blocked_at s handles of ≡ Some named → ⊥
  none_blocked q s handles of named k e =
      let is : (x : Publisher) × (s.publishers named.0 ≡ Some x) × (x.blocked ≡ Some named.1) =
      blocked_is s handles of named e in
      none-some named.1 (sym (k.publishers named.0 is.0 is.1).unblocked ∙ is.2)

  module _ (q : ℕ) where
    -- ---- outcomes by case

    done_alike : (a' b' : State T U) → view_of q a' ≡ view_of q b' → IsAlike q (done a') (done b')
    done_alike a' b' e = record { state = e; event = refl; handle = refl }

    -- outcomes of a call that makes something, or is refused that
    after_alike : {R : Type 0} (after : State T U → ℕ → Option R → Outcome T U) (a' b' : State T U) (n n' : ℕ)
        (refusal refusal' : Option R)
        → ((k : ℕ) → IsAlike q (after a' k None) (after b' k None))
        → ((k : ℕ) (x : R) → IsAlike q (after a' k (Some x)) (after b' k (Some x)))
        → n ≡ n' → refusal ≡ refusal' → IsAlike q (after a' n refusal) (after b' n' refusal')
    after_alike {R} after a' b' n n' refusal refusal' made refused f g =
        subst (λ k. IsAlike q (after a' n refusal) (after b' k refusal')) f
        (subst (λ r. IsAlike q (after a' n refusal) (after b' n r)) g (at refusal))
      where
        at : (r : Option R) → IsAlike q (after a' n r) (after b' n r)
        at None = made n
        at (Some x) = refused n x

    after_loan_alike : (a' b' : State T U) (n n' : ℕ) (refusal refusal' : Option LoanError)
        → view_of q a' ≡ view_of q b' → n ≡ n' → refusal ≡ refusal'
        → IsAlike q (after_loan a' n refusal) (after_loan b' n' refusal')
    after_loan_alike a' b' n n' refusal refusal' e =
        after_alike after_loan a' b' n n' refusal refusal' (λ k. record { state = e; event = refl; handle = refl })
        (λ k x. record { state = e; event = refl; handle = refl })

    -- a loan is written in both
    loan_put : (a b : State T U) (n : ℕ) (l : Option (Loan T U)) → view_of q a ≡ view_of q b
        → view_of q (with_loan a n l) ≡ view_of q (with_loan b n l)
    loan_put a b n l e = λ i. record (e i) { loans = put_at (e i).loans n l }

    module _ (default_value : T) (default_header : U) (m m' : Messages T U) (a b : State T U)
        (handles handles' : List Handle)
        (e : view_of q a ≡ view_of q b) (same : map (seen_handle q) handles ≡ map (seen_handle q) handles')
        (independent : IsIndependent q a) (independent' : IsIndependent q b) where
      abbrev StepA : Command T U → Outcome T U → Type 0
      StepA = Step ample_memory default_value default_header m a handles

      abbrev StepB : Command T U → Outcome T U → Type 0
      StepB = Step ample_memory default_value default_header m' b handles'

      next_same : a.next_message ≡ b.next_message
      next_same = ap (λ (v : View T U). v.next_message) e

      skipped_alike : (o o' : Outcome T U) → o ≡ skipped a → o' ≡ skipped b → IsAlike q o o'
      skipped_alike o o' f g =
          alike_equal q o (skipped a) o' (skipped b) f g (record { state = e; event = refl; handle = refl })

      -- what follows where a command may be skipped
      live : {A : Type 0} (o o' : Outcome T U) (named named' : Option A) (Then Then' : A → Type 0) → named ≡ named'
          → MatchOption named (o ≡ skipped a) Then
          → MatchOption named' (o' ≡ skipped b) Then'
          → ((x : A) → named ≡ Some x → Then x → Then' x → IsAlike q o o') → IsAlike q o o'
      live o o' named named' Then Then' f h k go =
          by_options (IsAlike q o o') named named' _ _ _ _ f h k (λ _ h k. skipped_alike o o' h k) go

      -- nothing that the subscriber sees is done in either
      both_quiet : (o o' : Outcome T U) → IsAlike q o (done a) → IsAlike q o' (done b) → IsAlike q o o'
      both_quiet o o' h k = alike_trans q o (done a) o' h
          (alike_trans q (done a) (done b) o' (done_alike a b e) (alike_sym q o' (done b) k))

      -- a change of a loan
      changed_alike : (o o' : Outcome T U) (n : ℕ) (l : Option (Loan T U)) → o ≡ done (with_loan a n l)
          → o' ≡ done (with_loan b n l) → IsAlike q o o'
      changed_alike o o' n l h k =
          alike_equal q o _ o' _ h k (done_alike (with_loan a n l) (with_loan b n l) (loan_put a b n l e))

      loan_alike : (checks_length : Bool) (len : ℕ) (named named' : Option (ℕ × Publisher)) (o o' : Outcome T U)
          → named ≡ named'
          → MatchOption (if_single_units a named) (o ≡ skipped a) (λ (publisher : ℕ × Publisher).
          (s' : State T U) × (refusal : Option LoanError)
          × GrantLoan ample_memory default_header checks_length len a publisher.0 s' refusal
          × (o ≡ after_loan s' a.next_message refusal))
          → MatchOption (if_single_units b named') (o' ≡ skipped b) (λ (publisher : ℕ × Publisher).
          (s' : State T U) × (refusal : Option LoanError)
          × GrantLoan ample_memory default_header checks_length len b publisher.0 s' refusal
          × (o' ≡ after_loan s' b.next_message refusal))
          → IsAlike q o o'
      loan_alike checks_length len named named' o o' f h k =
          live o o' (if_single_units a named) (if_single_units b named') _ _
          (single_same q a b handles handles' e same 0 named named' f) h k (λ publisher _ j l.
          let granted : (view_of q j.0 ≡ view_of q l.0) × (j.1 ≡ l.1) =
          grant_loan_alike q a b j.0 l.0 default_header checks_length len publisher.0 j.1 l.1 e independent.well_formed
          independent'.well_formed (λ x. independent.publishers publisher.0 x) j.2 l.2 in
          alike_equal q o _ o' _ j.3 l.3
          (after_loan_alike j.0 l.0 a.next_message b.next_message j.1 l.1 granted.0 next_same granted.1))

      -- a loan is sent, from two states that look alike
      sends_alike : (x y : State T U) (n : ℕ) (l : Loan T U) (o o' : Outcome T U) → view_of q x ≡ view_of q y
          → ((z : Publisher) → x.publishers l.publisher ≡ Some z → IsIndependentPublisher x.config z)
          → ((s' : State T U) × (result : SendResult) × Send ample_memory x n l s' result
          × (o ≡ after_send s' l.publisher n (entry_of l) result))
          → ((s' : State T U) × (result : SendResult) × Send ample_memory y n l s' result
          × (o' ≡ after_send s' l.publisher n (entry_of l) result))
          → IsAlike q o o'
      sends_alike x y n l o o' f all h k =
          alike_equal q o _ o' _ h.3 k.3 (send_alike q x y h.0 k.0 n l h.1 k.1 f all h.2 k.2)

      -- the subscriber itself, where its handle is
      own_same : (of : ℕ) → names_subscriber q (slice_get handles of) ≡ true
          → (slice_get handles of ≡ Some (Subscriber_handle q))
          × (subscriber_at a handles of ≡ subscriber_at b handles' of)
          × ((named : ℕ × Subscriber) → subscriber_at a handles of ≡ Some named → named.0 ≡ q)
      own_same of t =
          let here : slice_get handles of ≡ Some (Subscriber_handle q) = named-subscriber q (slice_get handles of) t in
          let there : slice_get handles' of ≡ Some (Subscriber_handle q) =
          named-subscriber q (slice_get handles' of)
          (sym (names_subscriber_same q a b handles handles' e same of) ∙ t) in (
            here,
            own_at q a handles of here ∙ ap (λ (v : View T U). option_and_then {U = ℕ × Subscriber}
                (λ y. cond y.is_open (Some (q, y)) None) v.own) e ∙ sym (own_at q b handles' of there),
            λ named f. own_id q (a.subscribers q) named (sym (own_at q a handles of here) ∙ f),
          )

      -- by whether something of the subscriber itself is named
      abbrev ByName : (Option Handle → Bool) → Type 1
      ByName names =
          (of : ℕ) (R : Type 0) → (names (slice_get handles of) ≡ true → R)
          → (names (slice_get handles of) ≡ false → names (slice_get handles' of) ≡ false → R) → R

      by_name : (names : Option Handle → Bool)
          → ((of : ℕ) → names (slice_get handles of) ≡ names (slice_get handles' of)) → ByName names
      by_name names both of R own other =
          elim (names (slice_get handles of)) as (λ c. names (slice_get handles of) ≡ c → R) [
            | true ↦ own
            | false ↦ λ f. other f (sym (both of) ∙ f)
          ] refl

      by_subscriber : ByName (names_subscriber q)
      by_subscriber = by_name (names_subscriber q) (names_subscriber_same q a b handles handles' e same)

      by_sample : ByName (names_sample q)
      by_sample = by_name (names_sample q) (names_sample_same q a b handles handles' e same)

      update_own : (r : ℕ) (o o' : Outcome T U) → r ≡ q
          → ((s' : State T U) × (failure : Option ConnectionFailure) × UpdateSubscriber ample_memory a r s' failure
          × (o ≡ after_update s' failure))
          → ((s' : State T U) × (failure : Option ConnectionFailure) × UpdateSubscriber ample_memory b r s' failure
          × (o' ≡ after_update s' failure))
          → IsAlike q o o'
      update_own r o o' is h k =
          let updated : (view_of q h.0 ≡ view_of q k.0) × (h.1 ≡ k.1) =
          update_subscriber_alike q a b h.0 k.0 h.1 k.1 e
          (subst (λ i. UpdateSubscriber ample_memory a i h.0 h.1) is h.2)
          (subst (λ i. UpdateSubscriber ample_memory b i k.0 k.1) is k.2) in
          alike_equal q o _ o' _ h.3 k.3 (after_update_alike q h.0 k.0 h.1 k.1 updated.0)

      -- a sample of q is the same in both, where its handle is
      own_sample_same : (of : ℕ) → names_sample q (slice_get handles of) ≡ true
          → sample_at a handles of ≡ sample_at b handles' of
      own_sample_same of t =
          let here : (p : ℕ) × (n : ℕ) × (slice_get handles of ≡ Some (Sample_handle p q n)) =
          named-sample q (slice_get handles of) t in
          let there : (p : ℕ) × (n : ℕ) × (slice_get handles' of ≡ Some (Sample_handle p q n)) =
          named-sample q (slice_get handles' of) (sym (names_sample_same q a b handles handles' e same of) ∙ t) in
          let numbers : (here.0 ≡ there.0) × (here.1 ≡ there.1) = same_sample q here.0 there.0 here.1 there.1
          (ap (option_map (seen_handle q)) (sym here.2) ∙ looked_up q a b handles handles' e same of
          ∙ ap (option_map (seen_handle q)) there.2) in
          own_sample_at q a handles of here.0 here.1 here.2
          ∙ (λ i. cond (is_borrowed (numbers.1 i) ((e i).mailboxes (numbers.0 i)))
          (Some (numbers.0 i, q, numbers.1 i)) None)
          ∙ sym (own_sample_at q b handles' of there.0 there.1 there.2)

      close_own : (r : ℕ) (y : Subscriber) (o o' : Outcome T U) → r ≡ q → o ≡ done (subscriber_closed a r y)
          → o' ≡ done (subscriber_closed b r y) → IsAlike q o o'
      close_own r y o o' is h k =
          alike_equal q o _ o' _ (h ∙ ap (λ (i : ℕ). done (subscriber_closed a i y)) is)
          (k ∙ ap (λ (i : ℕ). done (subscriber_closed b i y)) is)
          (done_alike _ _ (own_closed_alike q a b y e))

      release_own : (of : ℕ) (o o' : Outcome T U) → names_sample q (slice_get handles of) ≡ true → StepA (Release of) o
          → StepB (Release of) o' → IsAlike q o o'
      release_own of o o' t h k =
          let here : (p : ℕ) × (n : ℕ) × (slice_get handles of ≡ Some (Sample_handle p q n)) =
          named-sample q (slice_get handles of) t in
          live o o' (sample_at a handles of) (sample_at b handles' of) _ _ (own_sample_same of t) h k (λ sample f j l.
          let is : sample.1 ≡ q = sym (ap (λ (s : ℕ × ℕ × ℕ). s.1)
          (same_Some (here.0, q, here.1) sample (kept_if (is_borrowed here.1 (a.mailboxes here.0 q))
          (Some (here.0, q, here.1)) sample (sym (own_sample_at q a handles of here.0 here.1 here.2) ∙ f)))) in
          alike_equal q o _ o' _
          (j ∙ ap (λ (r : ℕ). done (released a sample.0 r sample.2)) is)
          (l ∙ ap (λ (r : ℕ). done (released b sample.0 r sample.2)) is)
          (done_alike _ _ (released_alike q a b sample.0 sample.2 e)))

      -- The law: outcomes are alike where no other subscriber is closed that has borrowed anything, and the
      -- subscriber's own receives get the same replies.
      pub step_alike : (command : Command T U) (o o' : Outcome T U) → ClosesUnborrowed q a b handles command
          → StepA command o → StepB command o'
          → ((of : ℕ) → command ≡ Receive of → slice_get handles of ≡ Some (Subscriber_handle q) → o.reply ≡ o'.reply)
          → IsAlike q o o'
      step_alike Nothing o o' closes h k replies = alike_equal q o (done a) o' (done b) h k (done_alike a b e)
      step_alike (PublisherCommand asked) o o' closes h k replies =
          let settings : ServiceConfig → PublisherSettings =
          λ (c : ServiceConfig). publisher_settings c.variant asked in
          let config : b.config ≡ a.config = ap (λ (v : View T U). v.config) (sym e) in
          let made : (view_of q h.0 ≡ view_of q k.0) × (h.1 ≡ k.1) =
          create_publisher_alike q a b h.0 k.0 (settings a.config) h.1 k.1 e h.2
          (subst (λ (c : ServiceConfig). CreatePublisher ample_memory b (settings c) k.0 k.1) config k.2) in
          alike_equal q o _ o' _ h.3 k.3 (after_alike after_publisher h.0 k.0 a.next_port b.next_port h.1 k.1
          (λ i. record { state = made.0; event = refl; handle = refl })
          (λ i x. record { state = made.0; event = refl; handle = refl }) (ap (λ (v : View T U). v.next_port) e) made.1)
      step_alike (SubscriberCommand buffer degradation) o o' closes h k replies =
          let settings : ServiceConfig → SubscriberSettings = λ (c : ServiceConfig).
          record {
            buffer_size = elim buffer [ None ↦ buffer_limit c | Some size ↦ size ];
            degradation_handler = Fixed degradation;
          } in
          let config : b.config ≡ a.config = ap (λ (v : View T U). v.config) (sym e) in
          let made : (view_of q h.0 ≡ view_of q k.0) × (h.1 ≡ k.1) =
          create_subscriber_alike q a b h.0 k.0 (settings a.config) h.1 k.1 e h.2
          (subst (λ (c : ServiceConfig). CreateSubscriber ample_memory b (settings c) k.0 k.1) config k.2) in
          alike_equal q o _ o' _ h.3 k.3 (after_alike after_subscriber h.0 k.0 a.next_port b.next_port h.1 k.1
          (λ i. record { state = made.0; event = refl; handle = refl })
          (λ i x. record { state = made.0; event = refl; handle = refl }) (ap (λ (v : View T U). v.next_port) e) made.1)
      step_alike (LoanUninit of) o o' closes h k replies =
          loan_alike false 1 (if_fixed_size a (unblocked_at a handles of))
          (if_fixed_size b (unblocked_at b handles' of)) o o'
          (fixed_size_same q a b handles handles' e same of _ _ (unblocked_at_same q a b handles handles' e same of)) h
          k
      step_alike (LoanDefault of) o o' closes h k replies =
          live o o' (if_single_units a (if_fixed_size a (unblocked_at a handles of)))
          (if_single_units b (if_fixed_size b (unblocked_at b handles' of))) _ _
          (single_same q a b handles handles' e same of _ _
          (fixed_size_same q a b handles handles' e same of _ _ (unblocked_at_same q a b handles handles' e same of))) h
          k (λ publisher _ j l.
          let granted : (view_of q j.0 ≡ view_of q l.0) × (j.1 ≡ l.1) =
          grant_written_loan_alike q a b j.0 l.0 default_value default_header false 1 publisher.0 j.1 l.1 e
          independent.well_formed independent'.well_formed (λ x. independent.publishers publisher.0 x) j.2 l.2 in
          alike_equal q o _ o' _ j.3 l.3
          (after_loan_alike j.0 l.0 a.next_message b.next_message j.1 l.1 granted.0 next_same granted.1))
      step_alike (LoanSlice of len) o o' closes h k replies =
          loan_alike true len (if_dynamic a (unblocked_at a handles of)) (if_dynamic b (unblocked_at b handles' of)) o
          o' (dynamic_same q a b handles handles' e same of _ _ (unblocked_at_same q a b handles handles' e same of)) h
          k
      step_alike (WriteCell of at value) o o' closes h k replies =
          live o o' (with_cell_at at (unwritten_at a handles of)) (with_cell_at at (unwritten_at b handles' of)) _ _
          (ap (with_cell_at at) (unwritten_at_same q a b handles handles' e same of)) h k
          (λ loan _ j l. changed_alike o o' loan.0 (Some (with_cell loan.1 at value)) j l)
      step_alike (WriteAll of value) o o' closes h k replies =
          live o o' (unwritten_at a handles of) (unwritten_at b handles' of) _ _
          (unwritten_at_same q a b handles handles' e same of) h k
          (λ loan _ j l. changed_alike o o' loan.0 (Some (written loan.1 value)) j l)
      step_alike (AssumeInit of) o o' closes h k replies =
          live o o' (unwritten_at a handles of) (unwritten_at b handles' of) _ _
          (unwritten_at_same q a b handles handles' e same of) h k
          (λ loan _ j l. alike_equal q o _ o' _ j l
          (elim (is_initialized loan.1) as (λ c.
          IsAlike q (cond c (done (initialized a loan.0 loan.1)) (replied Unwritten a))
          (cond c (done (initialized b loan.0 loan.1)) (replied Unwritten b))) [
            | true ↦ done_alike _ _ (loan_put a b loan.0 _ e)
            | false ↦ record { state = e; event = refl; handle = refl }
          ]))
      step_alike (WriteHeader of value) o o' closes h k replies =
          live o o' (loan_at a handles of) (loan_at b handles' of) _ _
          (loan_at_same q a b handles handles' e same of) h k
          (λ loan _ j l. changed_alike o o' loan.0 (Some (record (loan.1) { user_header = value })) j l)
      step_alike (SetPayload of at value) o o' closes h k replies =
          live o o' (with_cell_at at (written_at a handles of)) (with_cell_at at (written_at b handles' of)) _ _
          (ap (with_cell_at at) (written_at_same q a b handles handles' e same of)) h k
          (λ loan _ j l. changed_alike o o' loan.0 (Some (with_cell loan.1 at value)) j l)
      step_alike (SendLoan of) o o' closes h k replies =
          live o o' (sendable_at a handles of) (sendable_at b handles' of) _ _
          (sendable_at_same q a b handles handles' e same of) h k
          (λ loan _ j l. sends_alike a b loan.0 loan.1 o o' e (λ z. independent.publishers (loan.1).publisher z) j l)
      step_alike (SendLoanTo of channel place) o o' closes h k replies =
          live o o' (if_channel a channel (sendable_at a handles of))
          (if_channel b channel (sendable_at b handles' of)) _ _
          (channel_same q a b handles handles' e same of channel _ _
          (sendable_at_same q a b handles handles' e same of)) h k
          (λ loan _ j l. alike_equal q o _ o' _ j.3 l.3
          (connection_alike q a b j.0 l.0 loan.0 loan.1 channel place j.1 l.1 e
          (λ z. independent.publishers (loan.1).publisher z) j.2 l.2))
      step_alike (SendCopy of value) o o' closes h k replies =
          live o o' (if_single_units a (if_fixed_size a (unblocked_at a handles of)))
          (if_single_units b (if_fixed_size b (unblocked_at b handles' of))) _ _
          (single_same q a b handles handles' e same of _ _
          (fixed_size_same q a b handles handles' e same of _ _ (unblocked_at_same q a b handles handles' e same of))) h
          k (λ publisher _ j l.
          let granted : (view_of q j.0 ≡ view_of q l.0) × (j.1 ≡ l.1) =
          grant_written_loan_alike q a b j.0 l.0 value default_header false 1 publisher.0 j.1 l.1 e
          independent.well_formed independent'.well_formed (λ x. independent.publishers publisher.0 x) j.2 l.2 in
          let kept : StaysOpen q j.0 = grant_written_loan_open q value default_header false 1 a j.0 publisher.0 j.1 j.2
          (open_of q a independent) in
          by_options (IsAlike q o o') j.1 l.1 _ _ _ _ granted.1 j.3 l.3
          (λ _ x y. by_options (IsAlike q o o') ((j.0).loans a.next_message) ((l.0).loans b.next_message) _ _ _ _
          (λ i. (granted.0 i).loans (next_same i)) x y (λ _ v _. absurd v)
          (λ loan _ x y.
          sends_alike j.0 l.0 a.next_message loan o o' granted.0 (λ z. kept.publishers loan.publisher z) x
          (subst (λ (n : ℕ). (s' : State T U) × (result : SendResult) × Send ample_memory l.0 n loan s' result
          × (o' ≡ after_send s' loan.publisher n (entry_of loan) result)) (sym next_same) y)))
          (λ x _ y z. alike_equal q o (replied (SendRefused (NotLoaned x)) j.0) o'
          (replied (SendRefused (NotLoaned x)) l.0) y z (record { state = granted.0; event = refl; handle = refl })))
      step_alike (Discard of) o o' closes h k replies =
          live o o' (loan_at a handles of) (loan_at b handles' of) _ _
          (loan_at_same q a b handles handles' e same of) h k
          (λ loan _ j l. alike_equal q o _ o' _ j l (done_alike _ _ (loan_discarded_alike q a b loan.0 loan.1 e)))
      step_alike (Retry of elapsed) o o' closes h k replies =
          by_option (IsAlike q o o') (blocked_at a handles of) _ _ h
          (λ _ h. by_option (IsAlike q o o') (blocked_at b handles' of) _ _ k (λ _ k. skipped_alike o o' h k)
          (λ named f _. absurd (none_blocked q b handles' of named independent' f)))
          (λ named f _. absurd (none_blocked q a handles of named independent f))
      step_alike (GiveUp of) o o' closes h k replies =
          by_option (IsAlike q o o') (blocked_at a handles of) _ _ h
          (λ _ h. by_option (IsAlike q o o') (blocked_at b handles' of) _ _ k (λ _ k. skipped_alike o o' h k)
          (λ named f _. absurd (none_blocked q b handles' of named independent' f)))
          (λ named f _. absurd (none_blocked q a handles of named independent f))
      step_alike (Update of) o o' closes h k replies =
          by_options (IsAlike q o o') (unblocked_at a handles of) (unblocked_at b handles' of) _ _ _ _
          (unblocked_at_same q a b handles handles' e same of) h k
          (λ _ j l. by_subscriber of (IsAlike q o o')
          (λ t. let own : (slice_get handles of ≡ Some (Subscriber_handle q))
          × (subscriber_at a handles of ≡ subscriber_at b handles' of)
          × ((named : ℕ × Subscriber) → subscriber_at a handles of ≡ Some named → named.0 ≡ q) = own_same of t in
          live o o' (subscriber_at a handles of) (subscriber_at b handles' of) _ _ own.1 j l
          (λ subscriber f x y. update_own subscriber.0 o o' (own.2 subscriber f) x y))
          (λ f g. both_quiet o o' (update_of_other q default_value default_header m a handles of o f j)
          (update_of_other q default_value default_header m' b handles' of o' g l)))
          (λ publisher _ j l.
          let updated : (view_of q j.0 ≡ view_of q l.0) × (j.1 ≡ l.1) =
          update_publisher_alike q a b j.0 l.0 publisher.0 j.1 l.1 e j.2 l.2 in
          alike_equal q o _ o' _ j.3 l.3 (after_update_alike q j.0 l.0 j.1 l.1 updated.0))
      step_alike (Receive of) o o' closes h k replies =
          by_subscriber of (IsAlike q o o')
          (λ t. let own : (slice_get handles of ≡ Some (Subscriber_handle q))
          × (subscriber_at a handles of ≡ subscriber_at b handles' of)
          × ((named : ℕ × Subscriber) → subscriber_at a handles of ≡ Some named → named.0 ≡ q) = own_same of t in
          live o o' (if_single_units a (subscriber_at a handles of)) (if_single_units b (subscriber_at b handles' of)) _
          _ (single_same q a b handles handles' e same of _ _ own.1) h k (λ subscriber f x y.
          let is : subscriber.0 ≡ q = own.2 subscriber (in_single_units a _ subscriber f) in
          let x2 : Receives ample_memory a q x.0 x.1 = subst (λ i. Receives ample_memory a i x.0 x.1) is x.2 in
          let y2 : Receives ample_memory b q y.0 y.1 = subst (λ i. Receives ample_memory b i y.0 y.1) is y.2 in
          let x3 : o ≡ after_receive x.0 q x.1 = x.3 ∙ ap (λ (i : ℕ). after_receive x.0 i x.1) is in
          let y3 : o' ≡ after_receive y.0 q y.1 = y.3 ∙ ap (λ (i : ℕ). after_receive y.0 i y.1) is in
          alike_equal q o _ o' _ x3 y3 (receive_alike q a b x.0 y.0 x.1 y.1 e x2 y2
          (sym (ap (λ (v : Outcome T U). v.reply) x3) ∙ replies of refl own.0 ∙ ap (λ (v : Outcome T U). v.reply) y3))))
          (λ f g. both_quiet o o' (receive_of_other q default_value default_header m a handles of o f h)
          (receive_of_other q default_value default_header m' b handles' of o' g k))
      step_alike (HasSamples of) o o' closes h k replies =
          by_subscriber of (IsAlike q o o')
          (λ t. let own : (slice_get handles of ≡ Some (Subscriber_handle q))
          × (subscriber_at a handles of ≡ subscriber_at b handles' of)
          × ((named : ℕ × Subscriber) → subscriber_at a handles of ≡ Some named → named.0 ≡ q) = own_same of t in
          live o o' (subscriber_at a handles of) (subscriber_at b handles' of) _ _ own.1 h k (λ subscriber f x y.
          let is : subscriber.0 ≡ q = own.2 subscriber f in
          let updated : (view_of q x.0 ≡ view_of q y.0) × (x.1 ≡ y.1) =
          update_subscriber_alike q a b x.0 y.0 x.1 y.1 e
          (subst (λ i. UpdateSubscriber ample_memory a i x.0 x.1) is (x.3).0)
          (subst (λ i. UpdateSubscriber ample_memory b i y.0 y.1) is (y.3).0) in
          alike_equal q o _ o' _ x.4 y.4 (after_question_alike q x.0 y.0 x.1 y.1 x.2 y.2 updated.0)))
          (λ f g. both_quiet o o' (question_of_other q default_value default_header m a handles of o f h)
          (question_of_other q default_value default_header m' b handles' of o' g k))
      step_alike (Read of at) o o' closes h k replies =
          both_quiet o o' (read_quiet q default_value default_header m a handles of at o h)
          (read_quiet q default_value default_header m' b handles' of at o' k)
      step_alike (ReadHeader of) o o' closes h k replies =
          both_quiet o o' (header_quiet q default_value default_header m a handles of _ _ o h)
          (header_quiet q default_value default_header m' b handles' of _ _ o' k)
      step_alike (ReadUserHeader of) o o' closes h k replies =
          both_quiet o o' (header_quiet q default_value default_header m a handles of _ _ o h)
          (header_quiet q default_value default_header m' b handles' of _ _ o' k)
      step_alike (Release of) o o' closes h k replies =
          by_sample of (IsAlike q o o')
          (λ t. release_own of o o' t h k)
          (λ f g. both_quiet o o' (release_of_other q default_value default_header m a handles of o independent.all_open
          f h) (release_of_other q default_value default_header m' b handles' of o' independent'.all_open g k))
      step_alike (Close of) o o' closes h k replies =
          by_options (IsAlike q o o') (unblocked_at a handles of) (unblocked_at b handles' of) _ _ _ _
          (unblocked_at_same q a b handles handles' e same of) h k
          (λ _ j l. by_subscriber of (IsAlike q o o')
          (λ t. let own : (slice_get handles of ≡ Some (Subscriber_handle q))
          × (subscriber_at a handles of ≡ subscriber_at b handles' of)
          × ((named : ℕ × Subscriber) → subscriber_at a handles of ≡ Some named → named.0 ≡ q) = own_same of t in
          live o o' (subscriber_at a handles of) (subscriber_at b handles' of) _ _ own.1 j l
          (λ subscriber f x y. close_own subscriber.0 subscriber.1 o o' (own.2 subscriber f) x y))
          (λ other _. by_images (λ (n : ℕ × Subscriber). n.0) (IsAlike q o o') (subscriber_at a handles of)
          (subscriber_at b handles' of) _ _ _ _ (subscriber_id_same q a b handles handles' e same of) j l
          (λ j l. skipped_alike o o' j l)
          (λ named named' f is j l.
          let apart : eqb q named.0 ≡ false = subscriber_apart q a handles of named other f in
          let nothing : HasBorrowedNothing a named.0 × HasBorrowedNothing b named.0 =
          closes of named.0 (λ same. true≢false (sym (eq-eqb q named.0 (sym same)) ∙ apart)) refl
          (subscriber_handle_at q a handles of named f) in
          alike_equal q o _ o' _ j (l ∙ ap (λ (r : ℕ). done (subscriber_closed b r named'.1)) (sym is))
          (done_alike _ _ (subscriber_closed_alike q a b named.0 named.1 named'.1 nothing.0 nothing.1 e)))))
          (λ publisher _ j l.
          alike_equal q o _ o' _ j l (done_alike _ _ (publisher_closed_alike q a b publisher.0 publisher.1 e)))
      step_alike (ConnectionPlace of receiver) o o' closes h k replies =
          live o o' (publisher_at a handles of) (publisher_at b handles' of) _ _
          (publisher_at_same q a b handles handles' e same of) h k
          (λ publisher _ j l. alike_equal q o _ o' _ j l (record { state = e; event = refl; handle = refl }))
      step_alike (PublisherChannel of channel place call) o o' closes h k replies =
          live o o' (if_channel a channel (publisher_at a handles of))
          (if_channel b channel (publisher_at b handles' of)) _ _
          (channel_same q a b handles handles' e same of channel _ _
          (publisher_at_same q a b handles handles' e same of)) h k
          (λ publisher _ j l.
          alike_equal q o _ o' _ j l (publisher_channel_alike q a b publisher.0 channel place call e))
      step_alike (SubscriberChannel of channel call) o o' closes h k replies =
          by_subscriber of (IsAlike q o o')
          (λ t. let own : (slice_get handles of ≡ Some (Subscriber_handle q))
          × (subscriber_at a handles of ≡ subscriber_at b handles' of)
          × ((named : ℕ × Subscriber) → subscriber_at a handles of ≡ Some named → named.0 ≡ q) = own_same of t in
          live o o' (if_channel a channel (subscriber_at a handles of))
          (if_channel b channel (subscriber_at b handles' of)) _ _
          (channel_same q a b handles handles' e same of channel _ _ own.1) h k (λ subscriber f j l.
          let is : subscriber.0 ≡ q =
          own.2 subscriber (has_channel a channel (subscriber_at a handles of) subscriber f).1 in
          alike_equal q o _ o' _ (j ∙ ap (λ i. of_subscriber_channel a i channel call) is)
          (l ∙ ap (λ i. of_subscriber_channel b i channel call) is)
          (subscriber_channel_alike q a b channel call e)))
          (λ f g. both_quiet o o' (channels_of_other q default_value default_header m a handles of channel call o f h)
          (channels_of_other q default_value default_header m' b handles' of channel call o' g k))

      -- ---- reads

      -- All samples that are named there are of the subscriber itself.
      abbrev pub NamesOwn : List Handle → (of : ℕ) → Type 0
      NamesOwn named of = (p r n : ℕ) → slice_get named of ≡ Some (Sample_handle p r n) → r ≡ q

      -- the sample is the same in both
      sample_same : (of : ℕ) → NamesOwn handles of → NamesOwn handles' of
          → sample_at a handles of ≡ sample_at b handles' of
      sample_same of own own' =
          by_sample of (sample_at a handles of ≡ sample_at b handles' of)
          (own_sample_same of)
          (λ f g. no_sample_at q a handles of own f ∙ sym (no_sample_at q b handles' of own' g))

      reply_of : (o o' x x' : Outcome T U) → o ≡ x → o' ≡ x' → x.reply ≡ x'.reply → o.reply ≡ o'.reply
      reply_of o o' x x' h k f = ap (λ (v : Outcome T U). v.reply) h ∙ f ∙ sym (ap (λ (v : Outcome T U). v.reply) k)

      -- a read of a header
      header_same : (of named : ℕ) (of_loan : ℕ × Loan T U → Reply T U) (of_entry : Entry T U → Reply T U)
          (o o' : Outcome T U) → m ≡ m' → NamesOwn handles of → NamesOwn handles' of → named ≡ of
          → ReadsHeader m a handles named of_loan of_entry o → ReadsHeader m' b handles' named of_loan of_entry o'
          → o.reply ≡ o'.reply
      header_same of named of_loan of_entry o o' f own own' is h k =
          by_options (o.reply ≡ o'.reply) (sample_at a handles named) (sample_at b handles' named) _ _ _ _
          (subst (λ i. sample_at a handles i ≡ sample_at b handles' i) (sym is) (sample_same of own own')) h k
          (λ _ j l. by_options (o.reply ≡ o'.reply) (loan_at a handles named) (loan_at b handles' named) _ _ _ _
          (loan_at_same q a b handles handles' e same named) j l
          (λ _ x y. reply_of o o' (skipped a) (skipped b) x y refl)
          (λ loan _ x y. reply_of o o' (replied (of_loan loan) a) (replied (of_loan loan) b) x y refl))
          (λ sample _ j l. by_options (o.reply ≡ o'.reply) (m sample.2) (m' sample.2) _ _ _ _
          (ap (λ (h : Messages T U). h sample.2) f) j l (λ _ v _. absurd v)
          (λ entry _ x y. reply_of o o' (replied (of_entry entry) a) (replied (of_entry entry) b) x y refl))

      -- A read where the subscriber's own samples alone are named replies the same in both.
      pub read_same : (of : ℕ) (command : Command T U) (o o' : Outcome T U) → m ≡ m' → NamesOwn handles of
          → NamesOwn handles' of → reads_at of command ≡ true
          → StepA command o → StepB command o' → o.reply ≡ o'.reply
      read_same of (Read named at) o o' f own own' t h k =
          let is : named ≡ of = eqb-true named of t in
          by_options (o.reply ≡ o'.reply) (sample_at a handles named) (sample_at b handles' named) _ _ _ _
          (subst (λ i. sample_at a handles i ≡ sample_at b handles' i) (sym is) (sample_same of own own')) h k
          (λ _ j l. by_options (o.reply ≡ o'.reply) (with_cell_at at (loan_at a handles named))
          (with_cell_at at (loan_at b handles' named)) _ _ _ _
          (ap (with_cell_at at) (loan_at_same q a b handles handles' e same named)) j l
          (λ _ x y. reply_of o o' (skipped a) (skipped b) x y refl)
          (λ loan _ x y. by_options (o.reply ≡ o'.reply) (slice_get (loan.1).cells at)
          (slice_get (loan.1).cells at) _ _ _ _ refl x y (λ _ v _. absurd v)
          (λ cell _ v w. reply_of o o' (replied (Cell cell) a) (replied (Cell cell) b) v w refl)))
          (λ sample _ j l. by_options (o.reply ≡ o'.reply) (m sample.2) (m' sample.2) _ _ _ _
          (ap (λ (h : Messages T U). h sample.2) f) j l (λ _ v _. absurd v)
          (λ entry _ x y.
          by_options (o.reply ≡ o'.reply) (slice_get entry.values at) (slice_get entry.values at) _ _ _ _ refl x y
          (λ _ v w. reply_of o o' (skipped a) (skipped b) v w refl)
          (λ value _ v w. reply_of o o' (replied (Cell (Some value)) a) (replied (Cell (Some value)) b) v w refl)))
      read_same of (ReadHeader named) o o' f own own' t h k =
          header_same of named _ _ o o' f own own' (eqb-true named of t) h k
      read_same of (ReadUserHeader named) o o' f own own' t h k =
          header_same of named _ _ o o' f own own' (eqb-true named of t) h k
      read_same of _ o o' f own own' t h k = absurd (true≢false (sym t))
