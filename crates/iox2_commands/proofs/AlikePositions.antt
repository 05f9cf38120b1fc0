-- Which positions of a list name a subscriber, and which name others.
use Rattle.std.proofs.Common.{◌≡◌, ◌⊎◌, inl, inr, ⊎_elim, ℕ, zero, suc, ◌+◌, ◌≤◌, ◌<◌, Bool, true, false, not, List, []}
use Rattle.std.proofs.Common.{◌∷◌, ◌++◌, length, refl, sym, ap, subst, ◌∙◌, arith, Option, Some, eqb}
use Rattle.std.specs.Prelude.{slice_get}
use Rattle.std.proofs.lemmas.Bool.{eqb-true, eqb-false, ne_eqb, true≢false, eq-eqb}
use Rattle.std.proofs.lemmas.Option.{none-some, same_Some}
use Rattle.iox2_machine.specs.machine.State.{State}
use Rattle.iox2_commands.specs.Outcomes.{Handle, No_handle, Subscriber_handle, Sample_handle, Outcome}
use Rattle.iox2_commands.specs.Views.{makes_other_subscriber, receives_for_other, may_be_omitted}
use Rattle.iox2_commands.specs.Isolation.{is_of_others, reads_at}
use Rattle.iox2_commands.specs.declared.command.Command.{Command}
use Rattle.iox2_commands.specs.declared.command.Command.TheVariants.{CreateSubscriber, Receive, Read, ReadHeader}
use Rattle.iox2_commands.specs.declared.command.Command.TheVariants.{ReadUserHeader}
use Rattle.iox2_commands.specs.declared.reply.Reply.{Reply}
use Rattle.iox2_commands.specs.declared.reply.Reply.TheVariants.{SubscriberMade}
use Rattle.iox2_commands.proofs.AlikeHandles.{is_plain, tells_subscriber, Fits, MayMakeSample}

-- an element of a list with one more is the new one, or it was there before
at_appended : {X : Type 0} (P : Option X → Type 0) (xs : List X) (x : X) (i : ℕ) → P (slice_get xs i)
    → (i ≡ length xs → P (Some x)) → P (slice_get (xs ++ x ∷ []) i)
at_appended P [] x zero old new = new refl
at_appended P [] x (suc i) old new = old
at_appended P (y ∷ ys) x zero old new = old
at_appended P (y ∷ ys) x (suc i) old new = at_appended P ys x i old (λ e. new (omega arith))

-- handles of different kinds differ
clash : (r : ℕ) → No_handle ≡ Subscriber_handle r → ⊥
clash r e = cc

clash_sample : (p k n r : ℕ) → Sample_handle p k n ≡ Subscriber_handle r → ⊥
clash_sample p k n r e = cc

no_sample : (p k n : ℕ) → No_handle ≡ Sample_handle p k n → ⊥
no_sample p k n e = cc

-- equal handles name the same subscriber
same_id : (r r' : ℕ) → Subscriber_handle r ≡ Subscriber_handle r' → r ≡ r'
same_id r r' e = cc

same_receiver : (p p' r r' n n' : ℕ) → Sample_handle p r n ≡ Sample_handle p' r' n' → r ≡ r'
same_receiver p p' r r' n n' e = cc

-- At the position no other subscriber than q is named.
abbrev pub MadeAt : (position q : ℕ) → List Handle → Type 0
MadeAt position q handles = (r : ℕ) → slice_get handles position ≡ Some (Subscriber_handle r) → r ≡ q

module _ {T U : Type 0} where
  -- what a command at a position says
  abbrev makes_other_in : (position of : ℕ) → Option (Command T U) → Bool
  makes_other_in position of v =
      elim v [ Some (CreateSubscriber buffer degradation) ↦ not (eqb of position) | _ ↦ false ]

  abbrev receives_other_in : (position : ℕ) → List (Command T U) → Option (Command T U) → Bool
  receives_other_in position whole v =
      elim v [ Some (Receive subscriber) ↦ makes_other_subscriber position whole subscriber | _ ↦ false ]

  -- Handles that fit the list of commands and its replies: where others are made stands none of q's, a subscriber's
  -- handle stands where the replies tell of it, and that of q at its position.
  pub record HandlesFit (position q : ℕ) (whole : List (Command T U)) (replies : List (Reply T U))
      (handles : List Handle) : Type 0 where
    pub others : (i : ℕ) → makes_other_subscriber position whole i ≡ true → is_of_others q (slice_get handles i) ≡ true
    pub samples : (i : ℕ) → receives_for_other position whole i ≡ true → is_of_others q (slice_get handles i) ≡ true
    pub subscribers : (i r : ℕ) → slice_get handles i ≡ Some (Subscriber_handle r)
        → slice_get replies i ≡ Some (SubscriberMade r)
    pub own : (i : ℕ) → slice_get handles i ≡ Some (Subscriber_handle q) → i ≡ position

  -- no handles fit every list
  pub none_fit : (position q : ℕ) (whole : List (Command T U)) (replies : List (Reply T U))
      → HandlesFit position q whole replies []
  none_fit position q whole replies = record {
    others = λ i _. refl;
    samples = λ i _. refl;
    subscribers = λ i r e. absurd (none-some (Subscriber_handle r) e);
    own = λ i e. absurd (none-some (Subscriber_handle q) e);
  }

  module _ (position q : ℕ) (whole : List (Command T U)) (replies : List (Reply T U)) (s : State T U)
      (handles : List Handle) (o : Outcome T U) where
    -- The id that comes next isn't q, away from its position.
    abbrev pub Apart : Type 0
    Apart = (o.state).next_port ≡ s.next_port + 1 → (length handles ≡ position → ⊥) → s.next_port ≡ q → ⊥

    new_other : (command : Command T U) → makes_other_in position (length handles) (Some command) ≡ true
        → Fits s handles command o → Apart
        → is_of_others q (Some o.handle) ≡ true
    new_other (CreateSubscriber buffer degradation) h fits apart =
        ⊎_elim
        (λ none. subst (λ v. is_of_others q (Some v) ≡ true) (sym none.0) refl)
        (λ made. subst (λ v. is_of_others q (Some v) ≡ true) (sym made.0)
        (ap not
        (ne_eqb s.next_port q
        (apart made.2
        (λ e. true≢false (sym h ∙ ap not
        (subst (λ k. eqb (length handles) k ≡ true) e (eq-eqb (length handles) (length handles) refl))))))))
        fits
    new_other _ h fits apart = absurd (true≢false (sym h))

    new_sample : (command : Command T U) → receives_other_in position whole (Some command) ≡ true
        → HandlesFit position q whole replies handles
        → Fits s handles command o → is_of_others q (Some o.handle) ≡ true
    new_sample (Receive of) h before fits =
        ⊎_elim
        (λ none. subst (λ v. is_of_others q (Some v) ≡ true) (sym none) refl)
        (λ got. subst (λ v. is_of_others q (Some v) ≡ true) (sym got.3)
        (subst (λ v. is_of_others q v ≡ true) got.4 (before.others of h)))
        fits.1
    new_sample _ h before fits = absurd (true≢false (sym h))

    new_subscriber : (command : Command T U) (r : ℕ) → Fits s handles command o → o.handle ≡ Subscriber_handle r
        → o.reply ≡ SubscriberMade r
    new_subscriber (CreateSubscriber buffer degradation) r fits e =
        ⊎_elim (λ none. absurd (clash r (sym none.0 ∙ e)))
        (λ made. made.1 ∙ ap (λ k. SubscriberMade k) (same_id s.next_port r (sym made.0 ∙ e))) fits
    new_subscriber (Receive of) r fits e = ⊎_elim (λ none. absurd (clash r (sym none ∙ e)))
        (λ got. absurd (clash_sample got.0 got.1 got.2 r (sym got.3 ∙ e))) fits.1
    new_subscriber _ r fits e = absurd (true≢false (sym fits.0 ∙ ap is_plain e))

    new_own : (command : Command T U) → Fits s handles command o → Apart → o.handle ≡ Subscriber_handle q
        → length handles ≡ position
    new_own (CreateSubscriber buffer degradation) fits apart e =
        ⊎_elim
        (λ none. absurd (clash q (sym none.0 ∙ e)))
        (λ made. elim (eqb (length handles) position) as (λ b. eqb (length handles) position ≡ b
        → length handles ≡ position) [
          | true ↦ λ t. eqb-true (length handles) position t
          | false ↦ λ f.
              absurd (apart made.2 (eqb-false (length handles) position f) (same_id s.next_port q (sym made.0 ∙ e)))
        ] refl)
        fits
    new_own (Receive of) fits apart e = ⊎_elim (λ none. absurd (clash q (sym none ∙ e)))
        (λ got. absurd (clash_sample got.0 got.1 got.2 q (sym got.3 ∙ e))) fits.1
    new_own _ fits apart e = absurd (true≢false (sym fits.0 ∙ ap is_plain e))

    -- One more handle fits.
    pub more_fit : (command : Command T U) → slice_get whole (length handles) ≡ Some command
        → slice_get replies (length handles) ≡ Some o.reply
        → HandlesFit position q whole replies handles → Fits s handles command o → Apart
        → HandlesFit position q whole replies (handles ++ o.handle ∷ [])
    more_fit command here replied before fits apart = record {
      others = λ i h. at_appended (λ v. is_of_others q v ≡ true) handles o.handle i (before.others i h)
          (λ e. new_other command (subst (λ v. makes_other_in position (length handles) v ≡ true) here
          (subst (λ k. makes_other_subscriber position whole k ≡ true) e h)) fits apart);
      samples = λ i h. at_appended (λ v. is_of_others q v ≡ true) handles o.handle i (before.samples i h)
          (λ e. new_sample command (subst (λ v. receives_other_in position whole v ≡ true) here
          (subst (λ k. receives_for_other position whole k ≡ true) e h)) before fits);
      subscribers = λ i r. at_appended (λ v. v ≡ Some (Subscriber_handle r)
          → slice_get replies i ≡ Some (SubscriberMade r)) handles o.handle i (before.subscribers i r)
          (λ e f. subst (λ k. slice_get replies k ≡ Some (SubscriberMade r)) (sym e)
          (replied ∙ ap Some (new_subscriber command r fits (same_Some o.handle (Subscriber_handle r) f))));
      own = λ i. at_appended (λ v. v ≡ Some (Subscriber_handle q) → i ≡ position) handles o.handle i (before.own i)
          (λ e f. e ∙ new_own command fits apart (same_Some o.handle (Subscriber_handle q) f));
    }

  -- ---- where the subscriber is made

  -- the reply to the creation of a subscriber names the counter's next id
  pub told : (s : State T U) (handles : List Handle) (command : Command T U) (o : Outcome T U) (q : ℕ)
      → Fits s handles command o → o.reply ≡ SubscriberMade q
      → (q ≡ s.next_port) × ((o.state).next_port ≡ s.next_port + 1)
  told s handles (CreateSubscriber buffer degradation) o q fits e =
      ⊎_elim
      (λ none. absurd (true≢false (sym (ap tells_subscriber e) ∙ none.1)))
      (λ made. (ap id_told (sym e ∙ made.1), made.2))
      fits
    where
      id_told : Reply T U → ℕ
      id_told (SubscriberMade r) = r
      id_told _ = 0
  told s handles (Receive of) o q fits e = absurd (true≢false (sym (ap tells_subscriber e) ∙ fits.0))
  told s handles _ o q fits e = absurd (true≢false (sym (ap tells_subscriber e) ∙ fits.1))

  -- After n commands: the subscriber q is made at its position, which comes later, or it was made there before.
  abbrev pub Awaits : (position q n : ℕ) → List (Reply T U) → (next_port : ℕ) → Type 0
  Awaits position q n replies next_port =
      ((j : ℕ) × (position ≡ n + j) × (slice_get replies j ≡ Some (SubscriberMade q)))
      ⊎ ((position < n) × (q < next_port))

  -- one command later
  pub awaits_more : (position q n n' : ℕ) (s : State T U) (handles : List Handle) (command : Command T U)
      (o : Outcome T U) (later : List (Reply T U))
      → n' ≡ n + 1 → s.next_port ≤ (o.state).next_port
      → Fits s handles command o → Awaits position q n (o.reply ∷ later) s.next_port
      → Awaits position q n' later (o.state).next_port
  awaits_more position q n n' s handles command o later step rises fits h =
      ⊎_elim (λ k. at k.0 k.1 k.2) (λ k. inr (omega arith, omega arith)) h
    where
      at : (j : ℕ) → position ≡ n + j → slice_get (o.reply ∷ later) j ≡ Some (SubscriberMade q)
          → Awaits position q n' later (o.state).next_port
      at zero e f =
          let is : (q ≡ s.next_port) × ((o.state).next_port ≡ s.next_port + 1) =
          told s handles command o q fits (same_Some o.reply (SubscriberMade q) f) in
          inr (omega arith, omega (arith, is.0, is.1))
      at (suc j) e f = inl (j, omega arith, f)

  -- an id that is given out away from the position isn't that of the subscriber
  pub awaits_apart : (position q : ℕ) (s : State T U) (handles : List Handle) (o : Outcome T U)
      (later : List (Reply T U))
      → ((j : ℕ) → slice_get later j ≡ Some (SubscriberMade q) → (o.state).next_port ≤ q)
      → Awaits position q (length handles) (o.reply ∷ later) s.next_port → (o.state).next_port ≡ s.next_port + 1
      → (length handles ≡ position → ⊥) → s.next_port ≡ q → ⊥
  awaits_apart position q s handles o later below h counts apart same =
      ⊎_elim (λ k. at k.0 k.1 k.2) (λ k. omega arith) h
    where
      at : (j : ℕ) → position ≡ length handles + j → slice_get (o.reply ∷ later) j ≡ Some (SubscriberMade q) → ⊥
      at zero e f = apart (omega arith)
      at (suc j) e f = let low : (o.state).next_port ≤ q = below j f in omega arith

  -- a new subscriber's handle is of the counter's next id
  pub handle_told : (s : State T U) (handles : List Handle) (command : Command T U) (o : Outcome T U) (r : ℕ)
      → Fits s handles command o → o.handle ≡ Subscriber_handle r
      → (r ≡ s.next_port) × ((o.state).next_port ≡ s.next_port + 1)
  handle_told s handles (CreateSubscriber buffer degradation) o r fits e =
      ⊎_elim (λ none. absurd (clash r (sym none.0 ∙ e))) (λ made. (same_id r s.next_port (sym e ∙ made.0), made.2)) fits
  handle_told s handles (Receive of) o r fits e = ⊎_elim (λ none. absurd (clash r (sym none ∙ e)))
      (λ got. absurd (clash_sample got.0 got.1 got.2 r (sym got.3 ∙ e))) fits.1
  handle_told s handles _ o r fits e = absurd (true≢false (sym fits.0 ∙ ap is_plain e))

  -- one command later no other subscriber is named at the position
  pub made_more : (position q : ℕ) (s : State T U) (handles : List Handle) (command : Command T U) (o : Outcome T U)
      (later : List (Reply T U)) → Fits s handles command o
      → Awaits position q (length handles) (o.reply ∷ later) s.next_port → MadeAt position q handles
      → MadeAt position q (handles ++ o.handle ∷ [])
  made_more position q s handles command o later fits awaits made r =
      at_appended (λ v. v ≡ Some (Subscriber_handle r) → r ≡ q) handles o.handle position (made r)
      (λ here e. ⊎_elim (λ k. at k.0 k.1 here k.2 (same_Some o.handle (Subscriber_handle r) e))
      (λ k. absurd (omega arith)) awaits)
    where
      at : (j : ℕ) → position ≡ length handles + j → position ≡ length handles
          → slice_get (o.reply ∷ later) j ≡ Some (SubscriberMade q) → o.handle ≡ Subscriber_handle r
          → r ≡ q
      at zero e here f h = (handle_told s handles command o r fits h).0
          ∙ sym (told s handles command o q fits (same_Some o.reply (SubscriberMade q) f)).0
      at (suc j) e here f h = absurd (omega arith)

  -- ---- the subscriber's own samples

  -- Where the subscriber receives, samples of q alone are named.
  abbrev pub ReceivesOwn : (position q : ℕ) → List (Command T U) → List Handle → Type 0
  ReceivesOwn position q whole handles = (i p r n : ℕ) → slice_get whole i ≡ Some (Receive position)
      → slice_get handles i ≡ Some (Sample_handle p r n) → r ≡ q

  -- one command later
  pub received_more : (position q : ℕ) (whole : List (Command T U)) (s : State T U) (handles : List Handle)
      (command : Command T U) (o : Outcome T U)
      → Fits s handles command o
      → (slice_get whole (length handles) ≡ Some (Receive position) → command ≡ Receive position)
      → MadeAt position q handles → ReceivesOwn position q whole handles
      → ReceivesOwn position q whole (handles ++ o.handle ∷ [])
  received_more position q whole s handles command o fits receives made before i p r n here =
      at_appended (λ v. v ≡ Some (Sample_handle p r n) → r ≡ q) handles o.handle i (before i p r n here)
      (λ last e. new (receives (subst (λ k. slice_get whole k ≡ Some (Receive position)) last here))
      (same_Some o.handle (Sample_handle p r n) e))
    where
      new : command ≡ Receive position → o.handle ≡ Sample_handle p r n → r ≡ q
      new is e =
          let sample : MayMakeSample handles position o = subst (λ v. Fits s handles v o) is fits in
          ⊎_elim
          (λ none. absurd (no_sample p r n (sym none ∙ e)))
          (λ got. same_receiver p got.0 r got.1 n got.2 (sym e ∙ got.3) ∙ made got.1 got.4)
          sample.1

  -- no position makes another subscriber than it does
  never_itself : (position : ℕ) (v : Option (Command T U)) → makes_other_in position position v ≡ true → ⊥
  never_itself position (Some (CreateSubscriber buffer degradation)) h =
      true≢false (sym h ∙ ap not (eq-eqb position position refl))
  never_itself position _ h = true≢false (sym h)

  -- the subscriber's own receives aren't left out
  pub receive_kept : (position : ℕ) (whole : List (Command T U)) (command : Command T U) → command ≡ Receive position
      → may_be_omitted position whole command ≡ true → ⊥
  receive_kept position whole command is out =
      never_itself position (slice_get whole position) (subst (λ v. may_be_omitted position whole v ≡ true) is out)

  -- nor are reads of its samples
  pub read_kept : (position of : ℕ) (whole : List (Command T U)) (command : Command T U)
      → slice_get whole of ≡ Some (Receive position) → reads_at of command ≡ true
      → may_be_omitted position whole command ≡ true → ⊥
  read_kept position of whole command here t out = at command t out
    where
      sampled : (named : ℕ) → eqb named of ≡ true → receives_for_other position whole named ≡ true → ⊥
      sampled named t out =
          never_itself position (slice_get whole position)
          (subst (λ v. receives_other_in position whole v ≡ true) here
          (subst (λ k. receives_for_other position whole k ≡ true) (eqb-true named of t) out))

      at : (command : Command T U) → reads_at of command ≡ true → may_be_omitted position whole command ≡ true → ⊥
      at (Read named cell) t out = sampled named t out
      at (ReadHeader named) t out = sampled named t out
      at (ReadUserHeader named) t out = sampled named t out
      at _ t out = true≢false (sym t)
