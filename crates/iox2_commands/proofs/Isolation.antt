-- A slow subscriber isn't felt by another.
use Rattle.std.proofs.Common.{◌≡◌, ◌⊎◌, inl, ⊎_elim, ℕ, zero, suc, ◌+◌, ◌≤◌, ◌<◌, true, List, [], ◌∷◌, ◌++◌, length}
use Rattle.std.proofs.Common.{take, drop, refl, sym, ap, subst, ◌∙◌, arith, Option, None, Some}
use Rattle.std.specs.Prelude.{◌≢◌, slice_get, map}
use Rattle.std.specs.Option.{option_map}
use Rattle.std.proofs.Math.Path.{fun_ext}
use Rattle.std.proofs.lemmas.Bool.{true≢false}
use Rattle.std.proofs.lemmas.Option.{none-some, same_Some}
use Rattle.std.proofs.lemmas.List.{append-nil, map-append, length-append, length-map, take-append-drop}
use Rattle.iox2_machine.specs.machine.Records.{Subscriber}
use Rattle.iox2_machine.specs.machine.State.{State, Messages, fresh, no_messages}
use Rattle.iox2_machine.specs.machine.WellFormed.{IsWellFormed}
use Rattle.iox2_machine.specs.declared.service_config.ServiceConfig.{ServiceConfig}
use Rattle.iox2_laws.proofs.Enough.{fresh_is_well_formed}
use Rattle.iox2_commands.specs.Outcomes.{Handle, Subscriber_handle, Sample_handle, Event, No_event, Message_sent}
use Rattle.iox2_commands.specs.Outcomes.{Message_received, Outcome, done, messages_after}
use Rattle.iox2_commands.specs.Step.{Step}
use Rattle.iox2_machine.specs.machine.Environments.{ample_memory}
use Rattle.iox2_commands.specs.Runs.{RunTo, only_defaults}
use Rattle.iox2_commands.specs.Views.{PublicPart, public_part, seen_handle, SameView, may_be_omitted, OmitsOthersFrom}
use Rattle.iox2_commands.specs.Isolation.{IsIndependent, makes_independent_publisher, AreIndependent, is_of_others}
use Rattle.iox2_commands.specs.Isolation.{subscriber_call, SameViewAfter, ViewsStayAlike, HasReleased, ClosesUnborrowed}
use Rattle.iox2_commands.specs.Isolation.{CallsLeaveOthersViews, AlikeStatesStayAlike, SubscribersAreIsolated}
use Rattle.iox2_commands.specs.Isolation.{IsIndependentPublisher, reads_at}
use Rattle.iox2_commands.specs.declared.command.Command.{Command}
use Rattle.iox2_commands.specs.declared.command.Command.TheVariants.{Nothing, Receive, HasSamples, Update, Release}
use Rattle.iox2_commands.specs.declared.command.Command.TheVariants.{Read, ReadHeader, ReadUserHeader}
use Rattle.iox2_commands.specs.declared.command.Command.TheVariants.{SubscriberChannel}
use Rattle.iox2_commands.specs.declared.reply.Reply.{Reply}
use Rattle.iox2_commands.specs.declared.reply.Reply.TheVariants.{PublisherMade, SubscriberMade}
use Rattle.iox2_commands.proofs.EnoughRuns.{run_sound}
use Rattle.iox2_commands.proofs.GrowingLists.{found_earlier, found_below}
use Rattle.iox2_commands.proofs.Points.{found_taken, get_taken}
use Rattle.iox2_commands.proofs.StepLaws.{IsSound, step_sound}
use Rattle.iox2_commands.proofs.AlikeViews.{View, view_of}
use Rattle.iox2_commands.proofs.AlikeReceives.{sent_part, IsAlike, alike_equal, alike_sym, alike_trans}
use Rattle.iox2_commands.proofs.AlikeIndependent.{StaysOpen}
use Rattle.iox2_commands.proofs.AlikeSteps.{step_alike, read_same}
use Rattle.iox2_commands.proofs.AlikeOpen.{step_open}
use Rattle.iox2_commands.proofs.AlikeHandles.{Fits, step_fits}
use Rattle.iox2_commands.proofs.AlikePositions.{HandlesFit, none_fit, more_fit, told, Awaits, awaits_more, awaits_apart}
use Rattle.iox2_commands.proofs.AlikePositions.{MadeAt, made_more, ReceivesOwn, received_more, receive_kept, read_kept}
use Rattle.iox2_commands.proofs.AlikeNamed.{seen_subscriber, looked_up}
use Rattle.iox2_commands.proofs.ApartCalls.{others_alike}
use Rattle.iox2_commands.proofs.Borrowings.{GoesOn, begins, next_command, next_reply, nothing_borrowed, goes_on}

-- ---- views

handles_alike : (q : ℕ) (h h' : Handle) (named named' : List Handle)
    → map (seen_handle q) named ≡ map (seen_handle q) named'
    → seen_handle q h ≡ seen_handle q h'
    → map (seen_handle q) (named ++ h ∷ []) ≡ map (seen_handle q) (named' ++ h' ∷ [])
handles_alike q h h' named named' e f = map-append (seen_handle q) named (h ∷ []) ∙ (λ i. e i ++ f i ∷ [])
    ∙ sym (map-append (seen_handle q) named' (h' ∷ []))

module _ {T U : Type 0} (q : ℕ) where
  -- equal views, messages and handles are the same view
  same_view : (m m' : Messages T U) (s s' : State T U) (named named' : List Handle) → view_of q s ≡ view_of q s'
      → m ≡ m'
      → map (seen_handle q) named ≡ map (seen_handle q) named' → SameView q m s named m' s' named'
  same_view m m' s s' named named' e f g = record {
    config = ap (λ (v : View T U). v.config) e;
    next_port = ap (λ (v : View T U). v.next_port) e;
    next_message = ap (λ (v : View T U). v.next_message) e;
    loans = λ n. ap (λ (v : View T U). v.loans n) e;
    publishers = λ p. ap (λ (v : View T U). v.publishers p) e;
    publisher_places = ap (λ (v : View T U). v.publisher_places) e;
    subscriber_places = ap (λ (v : View T U). v.subscriber_places) e;
    others = λ r. ap (λ (v : View T U). v.others r) e;
    own = ap (λ (v : View T U). v.own) e;
    mailboxes = λ p. ap (λ (v : View T U). v.mailboxes p) e;
    channels = λ p. ap (λ (v : View T U). v.channels p) e;
    messages = λ n. ap (λ (h : Messages T U). h n) f;
    handles = g;
  }

  equal_views : (m m' : Messages T U) (s s' : State T U) (named named' : List Handle)
      → SameView q m s named m' s' named' → view_of q s ≡ view_of q s'
  equal_views m m' s s' named named' v = λ i. record {
    config = v.config i;
    next_port = v.next_port i;
    next_message = v.next_message i;
    loans = λ n. v.loans n i;
    publishers = λ p. v.publishers p i;
    publisher_places = v.publisher_places i;
    subscriber_places = v.subscriber_places i;
    others = λ r. v.others r i;
    own = v.own i;
    mailboxes = λ p. v.mailboxes p i;
    channels = λ p. v.channels p i;
  }

  -- only what is sent changes the messages
  messages_seen : (event : Event T U) (m : Messages T U) → messages_after event m ≡ messages_after (sent_part event) m
  messages_seen No_event m = refl
  messages_seen (Message_sent p n entry) m = refl
  messages_seen (Message_received p r n) m = refl

  messages_alike : (o o' : Outcome T U) (m m' : Messages T U) → IsAlike q o o' → m ≡ m'
      → messages_after o.event m ≡ messages_after o'.event m'
  messages_alike o o' m m' a e =
      messages_seen o.event m ∙ (λ i. messages_after (a.event i) (e i)) ∙ sym (messages_seen o'.event m')

  view_after : (m m' : Messages T U) (named named' : List Handle) (o o' : Outcome T U) → m ≡ m'
      → map (seen_handle q) named ≡ map (seen_handle q) named'
      → IsAlike q o o' → SameViewAfter q m named o m' named' o'
  view_after m m' named named' o o' e f a =
      same_view (messages_after o.event m) (messages_after o'.event m') o.state o'.state (named ++ o.handle ∷ [])
      (named' ++ o'.handle ∷ []) a.state
      (messages_alike o o' m m' a e) (handles_alike q o.handle o'.handle named named' f a.handle)

  -- a state with the view of an independent one is so too, its well-formedness apart
  open_seen : (a b : State T U) → view_of q a ≡ view_of q b → StaysOpen q a → StaysOpen q b
  open_seen a b e k = record {
    publishers = λ p x f. subst (λ (v : View T U). (p : ℕ) (x : _) → v.publishers p ≡ Some x
        → IsIndependentPublisher v.config x) e k.publishers p x f;
    all_open =
        λ r y apart f. at r y apart (a.subscribers r) refl (ap (λ (v : View T U). v.others r) e ∙ ap public_part f);
  }
    where
      part_of : Subscriber → PublicPart
      part_of y = record { is_open = y.is_open; place = y.place; buffer = y.buffer }

      at : (r : ℕ) (y : Subscriber) → r ≢ q → (o : Option Subscriber) → a.subscribers r ≡ o
          → public_part o ≡ Some (part_of y) → y.is_open ≡ true
      at r y apart None f g = absurd (none-some (part_of y) g)
      at r y apart (Some z) f g =
          sym (ap (λ (v : PublicPart). v.is_open) (same_Some (part_of z) (part_of y) g)) ∙ k.all_open r z apart f

-- ---- the laws of one step

-- a subscriber's call leaves the view of each other subscriber
pub calls_leave_others_views : {T U : Type 0} → CallsLeaveOthersViews T U
calls_leave_others_views {T} {U} default_value default_header q m s handles command of o all call other step =
    let a : IsAlike q o (done s) =
    others_alike q default_value default_header m s handles command of o all call other step in
    view_after q m m handles handles (done s) o refl refl (alike_sym q o (done s) a)

-- one command from two independent states that look alike ends in states that do
pub alike_states_stay_alike : {T U : Type 0} → AlikeStatesStayAlike T U
alike_states_stay_alike {T} {U} default_value default_header q m m' s s' handles handles' command o o' independent
    independent' v closes h k replies =
    view_after q m m' handles handles' o o' (fun_ext v.messages) v.handles
    (step_alike q default_value default_header m m' s s' handles handles'
    (equal_views q m m' s s' handles handles' v) v.handles independent independent' command o o' closes h k replies)

-- ---- runs with their handles

-- a run with its handles under these default values
module _ {T U : Type 0} (default_value : T) (default_header : U) where
  -- Memory is ample, and these are the default values.
  abbrev pub RunsBetween : Messages T U → State T U → List Handle → List (Command T U) → List (Reply T U)
      → List (Event T U) → Messages T U → State T U → List Handle → Type 0
  RunsBetween = RunTo ample_memory (only_defaults default_value default_header)

  -- The first step of a run, and the rest.
  pub record Begun (m : Messages T U) (s : State T U) (handles : List Handle) (command : Command T U)
      (commands : List (Command T U)) (replies : List (Reply T U)) (m' : Messages T U) (s' : State T U)
      (handles' : List Handle) : Type 0 where
    pub outcome : Outcome T U
    pub step : Step ample_memory default_value default_header m s handles command outcome
    pub later : List (Reply T U)
    pub replies_are : replies ≡ outcome.reply ∷ later
    pub events : List (Event T U)
    pub rest : RunsBetween (messages_after outcome.event m) outcome.state
        (handles ++ outcome.handle ∷ []) commands later events m' s' handles'

  begun : (m : Messages T U) (s : State T U) (handles : List Handle) (command : Command T U)
      (commands : List (Command T U)) (replies : List (Reply T U)) (events : List (Event T U)) (m' : Messages T U)
      (s' : State T U) (handles' : List Handle)
      → RunsBetween m s handles (command ∷ commands) replies events m' s' handles'
      → Begun m s handles command commands replies m' s' handles'
  begun m s handles command commands [] [] m' s' handles' h = absurd h
  begun m s handles command commands [] (e ∷ es) m' s' handles' h = absurd h
  begun m s handles command commands (r ∷ rs) [] m' s' handles' h = absurd h
  begun m s handles command commands (r ∷ rs) (e ∷ es) m' s' handles' h = record {
    outcome = h.4;
    step = subst (λ v. Step ample_memory v default_header m s handles command h.4) h.2
        (subst (λ v. Step ample_memory h.0 v m s handles command h.4) h.3 h.5);
    later = rs;
    replies_are = ap (λ v. v ∷ rs) (sym h.6);
    events = es;
    rest = h.8;
  }

  -- A run of no commands.
  ended : (m : Messages T U) (s : State T U) (handles : List Handle) (replies : List (Reply T U))
      (events : List (Event T U)) (m' : Messages T U) (s' : State T U) (handles' : List Handle)
      → RunsBetween m s handles [] replies events m' s' handles'
      → (m' ≡ m) × (s' ≡ s) × (handles' ≡ handles) × (replies ≡ [])
  ended m s handles [] [] m' s' handles' h = (h.0, h.1, h.2, refl)
  ended m s handles [] (e ∷ es) m' s' handles' h = absurd h
  ended m s handles (r ∷ rs) [] m' s' handles' h = absurd h
  ended m s handles (r ∷ rs) (e ∷ es) m' s' handles' h = absurd h

  -- A subscriber that is made later has no smaller id than the counter's next, where this is so of what is made after
  -- the run.
  made_later : (commands : List (Command T U)) (m : Messages T U) (s : State T U) (handles : List Handle)
      (replies : List (Reply T U)) (events : List (Event T U)) (m' : Messages T U) (s' : State T U)
      (handles' : List Handle)
      (ahead : List (Reply T U)) (q j : ℕ) → ((k : ℕ) → slice_get ahead k ≡ Some (SubscriberMade q) → s'.next_port ≤ q)
      → IsWellFormed s → RunsBetween m s handles commands replies events m' s' handles'
      → slice_get (replies ++ ahead) j ≡ Some (SubscriberMade q) → s.next_port ≤ q
  made_later [] m s handles replies events m' s' handles' ahead q j below w h e =
      let x : (m' ≡ m) × (s' ≡ s) × (handles' ≡ handles) × (replies ≡ []) =
      ended m s handles replies events m' s' handles' h in
      subst (λ (t : State T U). t.next_port ≤ q) x.1
      (below j (subst (λ (v : List (Reply T U)). slice_get (v ++ ahead) j ≡ Some (SubscriberMade q)) x.3 e))
  made_later (command ∷ commands) m s handles replies events m' s' handles' ahead q j below w h e =
      let b : Begun m s handles command commands replies m' s' handles' =
      begun m s handles command commands replies events m' s' handles' h in
      let o : Outcome T U = b.outcome in
      let sound : IsSound s o = step_sound ample_memory default_value default_header m s handles w command o b.step in
      let rises : s.next_port ≤ (o.state).next_port = (sound.advances).next_port in
      at o (b.later ++ ahead) j rises (λ k f. made_later commands (messages_after o.event m) o.state
      (handles ++ o.handle ∷ []) b.later b.events m' s' handles' ahead q k below sound.well_formed b.rest f)
      (step_fits default_value default_header m s handles command o b.step)
      (subst (λ (v : List (Reply T U)). slice_get (v ++ ahead) j ≡ Some (SubscriberMade q)) b.replies_are e)
    where
      at : (o : Outcome T U) (later : List (Reply T U)) (j : ℕ) → s.next_port ≤ (o.state).next_port
          → ((k : ℕ) → slice_get later k ≡ Some (SubscriberMade q) → (o.state).next_port ≤ q) → Fits s handles command o
          → slice_get (o.reply ∷ later) j ≡ Some (SubscriberMade q) → s.next_port ≤ q
      at o later zero rises go fits f = let is : (q ≡ s.next_port)
          × ((o.state).next_port ≡ s.next_port + 1) =
          told s handles command o q fits (same_Some o.reply (SubscriberMade q) f) in omega (arith, is.0)
      at o later (suc k) rises go fits f = let low : (o.state).next_port ≤ q = go k f in omega arith

-- ---- lists of commands

-- lists of handles that look alike are as long
as_many : (q : ℕ) (handles handles' : List Handle) → map (seen_handle q) handles ≡ map (seen_handle q) handles'
    → length handles' ≡ length handles
as_many q handles handles' e =
    sym (length-map handles' (seen_handle q)) ∙ ap length (sym e) ∙ length-map handles (seen_handle q)

module _ {T U : Type 0} where
  -- a command that may be left out is a call of others
  left_out : (position q : ℕ) (whole : List (Command T U)) (replies : List (Reply T U)) (handles : List Handle)
      (command : Command T U) → HandlesFit position q whole replies handles
      → may_be_omitted position whole command ≡ true
      → (of : ℕ) × (subscriber_call command ≡ Some of) × (is_of_others q (slice_get handles of) ≡ true)
  left_out position q whole replies handles (Receive of) fit h = (of, refl, fit.others of h)
  left_out position q whole replies handles (HasSamples of) fit h = (of, refl, fit.others of h)
  left_out position q whole replies handles (Update of) fit h = (of, refl, fit.others of h)
  left_out position q whole replies handles (SubscriberChannel of channel call) fit h = (of, refl, fit.others of h)
  left_out position q whole replies handles (Release of) fit h = (of, refl, fit.samples of h)
  left_out position q whole replies handles (Read of at) fit h = (of, refl, fit.samples of h)
  left_out position q whole replies handles (ReadHeader of) fit h = (of, refl, fit.samples of h)
  left_out position q whole replies handles (ReadUserHeader of) fit h = (of, refl, fit.samples of h)
  left_out position q whole replies handles _ fit h = absurd (true≢false (sym h))

-- ---- two runs

module _ {T U : Type 0} (default_value : T) (default_header : U) (c : ServiceConfig) (position q : ℕ)
    (beginning after : List (Command T U)) (all_replies : List (Reply T U))
    (beginning' : List (Command T U)) (all_replies' : List (Reply T U))
    (all_independent : AreIndependent c position beginning all_replies beginning' all_replies') where
  -- The commands and what comes after them.
  abbrev whole : List (Command T U)
  whole = beginning ++ after

  -- What holds of both runs after the same number of commands.
  pub record StandAlike (commands others : List (Command T U)) (replies replies' : List (Reply T U))
      (m m' : Messages T U) (a b : State T U) (handles handles' : List Handle) : Type 0 where
    pub first : GoesOn beginning all_replies commands replies a handles
    pub second : GoesOn beginning' all_replies' others replies' b handles'
    pub fit : HandlesFit position q whole all_replies handles
    pub awaits : Awaits position q (length handles) replies a.next_port
    pub made : MadeAt position q handles
    pub received : ReceivesOwn position q whole handles
    pub received' : ReceivesOwn position q whole handles'
    pub config : a.config ≡ c
    pub independent : IsIndependent q a
    pub independent' : IsIndependent q b
    pub views : view_of q a ≡ view_of q b
    pub messages : m ≡ m'
    pub handles_seen : map (seen_handle q) handles ≡ map (seen_handle q) handles'

  independent_of : (s : State T U) → IsWellFormed s → StaysOpen q s → IsIndependent q s
  independent_of s w k = record { well_formed = w; publishers = k.publishers; all_open = k.all_open }

  -- the step of a command that is the same or left out
  one_alike : (command other : Command T U) (commands others : List (Command T U)) (replies replies' : List (Reply T U))
      (m m' : Messages T U) (a b : State T U) (handles handles' : List Handle) (o o' : Outcome T U)
      → StandAlike (command ∷ commands) (other ∷ others) replies replies' m m' a b handles handles'
      → ((other ≡ command) ⊎ ((other ≡ Nothing) × (may_be_omitted position whole command ≡ true)))
      → ClosesUnborrowed q a b handles command
      → Step ample_memory default_value default_header m a handles command o
      → Step ample_memory default_value default_header m' b handles' other o'
      → (command ≡ Receive position → o.reply ≡ o'.reply) → IsAlike q o o'
  one_alike command other commands others replies replies' m m' a b handles handles' o o' stand reduced closes h k
      agree =
      ⊎_elim
      (λ same. step_alike q default_value default_header m m' a b handles handles' stand.views stand.handles_seen
      stand.independent stand.independent' command o o' closes h
      (subst (λ v. Step ample_memory default_value default_header m' b handles' v o') same k)
      (λ of e f. agree (e ∙ ap (λ i. Receive i) ((stand.fit).own of f))))
      (λ out.
      let named : (of : ℕ) × (subscriber_call command ≡ Some of) × (is_of_others q (slice_get handles of) ≡ true) =
      left_out position q whole all_replies handles command stand.fit out.1 in
      let nothing : o' ≡ done b =
      subst (λ v. Step ample_memory default_value default_header m' b handles' v o') out.0 k in
      alike_trans q o (done a) o'
      (others_alike q default_value default_header m a handles command named.0 o
      (stand.independent).all_open named.1 named.2 h)
      (alike_equal q (done a) (done a) o' (done b) refl nothing
      (record { state = stand.views; event = refl; handle = refl })))
      reduced

  -- one command later both stand alike
  later_alike : (command other : Command T U) (commands others : List (Command T U))
      (replies replies' later later' : List (Reply T U)) (m m' : Messages T U) (a b : State T U)
      (handles handles' : List Handle) (o o' : Outcome T U)
      → StandAlike (command ∷ commands) (other ∷ others) replies replies' m m' a b handles handles'
      → ((other ≡ command) ⊎ ((other ≡ Nothing) × (may_be_omitted position whole command ≡ true)))
      → ((p : ℕ) → o.reply ≡ PublisherMade p → makes_independent_publisher c command ≡ true)
      → ClosesUnborrowed q a b handles command
      → Step ample_memory default_value default_header m a handles command o
      → Step ample_memory default_value default_header m' b handles' other o'
      → replies ≡ o.reply ∷ later → replies' ≡ o'.reply ∷ later'
      → ((j : ℕ) → slice_get later j ≡ Some (SubscriberMade q) → (o.state).next_port ≤ q) → IsAlike q o o'
      → StandAlike commands others later later' (messages_after o.event m) (messages_after o'.event m') o.state o'.state
      (handles ++ o.handle ∷ []) (handles' ++ o'.handle ∷ [])
  later_alike command other commands others replies replies' later later' m m' a b handles handles' o o' stand reduced
      makes closes h k are are' below alike =
      let sound : IsSound a o = step_sound ample_memory default_value default_header m a handles
      (stand.independent).well_formed command o h in
      let sound' : IsSound b o' = step_sound ample_memory default_value default_header m' b handles'
      (stand.independent').well_formed other o' k in
      let kept : StaysOpen q o.state = step_open q default_value default_header m a handles stand.independent command o
      (λ p e. subst (λ (v : ServiceConfig). makes_independent_publisher v command ≡ true) (sym stand.config)
      (makes p e)) (λ of r apart e f. (closes of r apart e f).0) h in
      let fits : Fits a handles command o = step_fits default_value default_header m a handles command o h in
      let awaits : Awaits position q (length handles) (o.reply ∷ later) a.next_port =
      subst (λ (v : List (Reply T U)). Awaits position q (length handles) v a.next_port) are stand.awaits in
      let one_more : length (handles ++ o.handle ∷ []) ≡ length handles + 1 = length-append handles (o.handle ∷ []) in
      let here : slice_get whole (length handles) ≡ Some command =
      found_earlier beginning after (length handles) command
      (next_command beginning all_replies (command ∷ commands) replies a handles command commands refl stand.first) in
      let fits' : Fits b handles' other o' = step_fits default_value default_header m' b handles' other o' k in
      let receives : slice_get whole (length handles) ≡ Some (Receive position) → command ≡ Receive position =
      λ e. same_Some command (Receive position) (sym here ∙ e) in
      let same_length : length handles' ≡ length handles = as_many q handles handles' stand.handles_seen in
      let made' : MadeAt position q handles' = λ r e. stand.made r
      (seen_subscriber q r (slice_get handles position)
      (looked_up q a b handles handles' stand.views stand.handles_seen position ∙ ap (option_map (seen_handle q)) e)) in
      record {
        first = goes_on beginning all_replies a handles command o default_value default_header m commands later
            (subst (λ (v : List (Reply T U)). GoesOn beginning all_replies (command ∷ commands) v a handles) are
            stand.first) (sound.advances).next_port h;
        second = goes_on beginning' all_replies' b handles' other o' default_value default_header m' others later'
            (subst (λ (v : List (Reply T U)). GoesOn beginning' all_replies' (other ∷ others) v b handles') are'
            stand.second) (sound'.advances).next_port k;
        fit = more_fit position q whole all_replies a handles o command here
            (next_reply beginning all_replies (command ∷ commands) replies a handles o.reply later are stand.first)
            stand.fit fits (awaits_apart position q a handles o later below awaits);
        made = made_more position q a handles command o later fits awaits stand.made;
        received = received_more position q whole a handles command o fits receives stand.made stand.received;
        received' = received_more position q whole b handles' other o' fits'
            (λ e. let is : command ≡ Receive position = receives
            (subst (λ (n : ℕ). slice_get whole n ≡ Some (Receive position)) same_length e) in
            ⊎_elim (λ same. same ∙ is) (λ out. absurd (receive_kept position whole command is out.1)) reduced)
            made' stand.received';
        awaits = awaits_more position q (length handles) (length (handles ++ o.handle ∷ [])) a handles command o later
            one_more (sound.advances).next_port fits awaits;
        config = (sound.advances).config ∙ stand.config;
        independent = independent_of o.state sound.well_formed kept;
        independent' = independent_of o'.state sound'.well_formed (open_seen q o.state o'.state alike.state kept);
        views = alike.state;
        messages = messages_alike q o o' m m' alike stand.messages;
        handles_seen = handles_alike q o.handle o'.handle handles handles' stand.handles_seen alike.handle;
      }

  -- a read of the subscriber's own sample replies the same in both
  read_alike : (command other : Command T U) (commands others : List (Command T U))
      (replies replies' : List (Reply T U)) (m m' : Messages T U) (a b : State T U) (handles handles' : List Handle)
      (o o' : Outcome T U) (of : ℕ)
      → StandAlike (command ∷ commands) (other ∷ others) replies replies' m m' a b handles handles'
      → ((other ≡ command) ⊎ ((other ≡ Nothing) × (may_be_omitted position whole command ≡ true)))
      → Step ample_memory default_value default_header m a handles command o
      → Step ample_memory default_value default_header m' b handles' other o'
      → slice_get whole of ≡ Some (Receive position) → reads_at of command ≡ true → o.reply ≡ o'.reply
  read_alike command other commands others replies replies' m m' a b handles handles' o o' of stand reduced h k here t =
      ⊎_elim
      (λ same. read_same q default_value default_header m m' a b handles handles' stand.views stand.handles_seen
      stand.independent stand.independent' of command o o' stand.messages
      (λ p r n e. stand.received of p r n here e) (λ p r n e. stand.received' of p r n here e) t h
      (subst (λ v. Step ample_memory default_value default_header m' b handles' v o') same k))
      (λ out. absurd (read_kept position of whole command here t out.1))
      reduced

  -- another subscriber that is closed has borrowed nothing in either state
  closed_unborrowed : (command other : Command T U) (commands others : List (Command T U))
      (replies replies' : List (Reply T U)) (m m' : Messages T U) (a b : State T U) (handles handles' : List Handle)
      → StandAlike (command ∷ commands) (other ∷ others) replies replies' m m' a b handles handles'
      → ClosesUnborrowed q a b handles command
  closed_unborrowed command other commands others replies replies' m m' a b handles handles' stand of r apart e f =
      let low : of < length handles = found_below handles of (Subscriber_handle r) f in
      let released : HasReleased of (length handles) beginning all_replies
      × HasReleased of (length handles) beginning' all_replies' =
      all_independent.closes (length handles) of r (λ same.
      apart (stand.made r (subst (λ (i : ℕ). slice_get handles i ≡ Some (Subscriber_handle r)) same f))) low
      (next_command beginning all_replies (command ∷ commands) replies a handles command commands refl stand.first
      ∙ ap (λ (v : Command T U). Some v) e)
      ((stand.fit).subscribers of r f) in
      let named : slice_get handles' of ≡ Some (Subscriber_handle r) =
      seen_subscriber q r (slice_get handles' of)
      (sym (looked_up q a b handles handles' stand.views stand.handles_seen of) ∙ ap (option_map (seen_handle q)) f) in (
        nothing_borrowed beginning all_replies (command ∷ commands) replies a handles of r stand.first f released.0,
        nothing_borrowed beginning' all_replies' (other ∷ others) replies' b handles' of r stand.second named
            (subst (λ (n : ℕ). HasReleased of n beginning' all_replies')
            (sym (as_many q handles handles' stand.handles_seen)) released.1),
      )

  -- Both runs end alike, and reads of the subscriber's own samples get the same replies. More may come after them, with
  -- the replies `ahead` to the first and `ahead'` to the second.
  runs_alike : (commands others : List (Command T U)) (replies replies' ahead ahead' : List (Reply T U))
      (events events' : List (Event T U)) (m m' n n' : Messages T U) (a b a' b' : State T U)
      (handles handles' ends ends' : List Handle)
      → OmitsOthersFrom position whole commands others
      → StandAlike commands others (replies ++ ahead) (replies' ++ ahead') m m' a b handles handles'
      → ((j : ℕ) → slice_get ahead j ≡ Some (SubscriberMade q) → a'.next_port ≤ q)
      → RunsBetween default_value default_header m a handles commands replies events n a' ends
      → RunsBetween default_value default_header m' b handles' others replies' events' n' b' ends'
      → ((i : ℕ) → slice_get commands i ≡ Some (Receive position) → slice_get replies i ≡ slice_get replies' i)
      → SameView q n a' ends n' b' ends'
      × ((i of : ℕ) (read : Command T U) → slice_get whole of ≡ Some (Receive position)
      → slice_get commands i ≡ Some read → reads_at of read ≡ true → slice_get replies i ≡ slice_get replies' i)
  runs_alike [] [] replies replies' ahead ahead' events events' m m' n n' a b a' b' handles handles' ends ends' reduced
      stand below h k agree =
      let x : (n ≡ m) × (a' ≡ a) × (ends ≡ handles) × (replies ≡ []) =
      ended default_value default_header m a handles replies events n a' ends h in
      let y : (n' ≡ m') × (b' ≡ b) × (ends' ≡ handles') × (replies' ≡ []) =
      ended default_value default_header m' b handles' replies' events' n' b' ends' k in (
        same_view q n n' a' b' ends ends'
            (ap (view_of q) x.1 ∙ stand.views ∙ sym (ap (view_of q) y.1))
            (x.0 ∙ stand.messages ∙ sym y.0)
            (ap (map (seen_handle q)) x.2 ∙ stand.handles_seen ∙ sym (ap (map (seen_handle q)) y.2)),
        λ i of read here e t. absurd (none-some read e),
      )
  runs_alike [] (other ∷ others) replies replies' ahead ahead' events events' m m' n n' a b a' b' handles handles' ends
      ends' reduced stand below h k agree = absurd reduced
  runs_alike (command ∷ commands) [] replies replies' ahead ahead' events events' m m' n n' a b a' b' handles handles'
      ends ends' reduced stand below h k agree = absurd reduced
  runs_alike (command ∷ commands) (other ∷ others) replies replies' ahead ahead' events events' m m' n n' a b a' b'
      handles handles' ends ends' reduced stand below h k agree =
      let x : Begun default_value default_header m a handles command commands replies n a' ends =
      begun default_value default_header m a handles command commands replies events n a' ends h in
      let y : Begun default_value default_header m' b handles' other others replies' n' b' ends' =
      begun default_value default_header m' b handles' other others replies' events' n' b' ends' k in
      let o : Outcome T U = x.outcome in
      let o' : Outcome T U = y.outcome in
      let agreed : (i : ℕ) → slice_get (command ∷ commands) i ≡ Some (Receive position)
      → slice_get (o.reply ∷ x.later) i ≡ slice_get (o'.reply ∷ y.later) i =
      λ i e. sym (ap (λ (v : List (Reply T U)). slice_get v i) x.replies_are) ∙ agree i e
      ∙ ap (λ (v : List (Reply T U)). slice_get v i) y.replies_are in
      let are : replies ++ ahead ≡ o.reply ∷ (x.later ++ ahead) =
      ap (λ (v : List (Reply T U)). v ++ ahead) x.replies_are in
      let are' : replies' ++ ahead' ≡ o'.reply ∷ (y.later ++ ahead') =
      ap (λ (v : List (Reply T U)). v ++ ahead') y.replies_are in
      let makes : (p : ℕ) → o.reply ≡ PublisherMade p → makes_independent_publisher c command ≡ true =
      λ p e. all_independent.publishers (length handles) p command
      (next_command beginning all_replies (command ∷ commands)
      (replies ++ ahead) a handles command commands refl stand.first)
      (next_reply beginning all_replies (command ∷ commands) (replies ++ ahead) a handles o.reply
      (x.later ++ ahead) are stand.first ∙ ap Some e) in
      let closes : ClosesUnborrowed q a b handles command =
      closed_unborrowed command other commands others (replies ++ ahead)
      (replies' ++ ahead') m m' a b handles handles' stand in
      let alike : IsAlike q o o' = one_alike command other commands others (replies ++ ahead)
      (replies' ++ ahead') m m' a b handles handles' o o' stand reduced.0 closes x.step y.step
      (λ e. same_Some o.reply o'.reply (agreed 0 (ap Some e))) in
      let sound : IsSound a o = step_sound ample_memory default_value default_header m a handles
      (stand.independent).well_formed command o x.step in
      let next : StandAlike commands others (x.later ++ ahead) (y.later ++ ahead') (messages_after o.event m)
      (messages_after o'.event m') o.state o'.state (handles ++ o.handle ∷ []) (handles' ++ o'.handle ∷ []) =
      later_alike command other commands others (replies ++ ahead) (replies' ++ ahead') (x.later ++ ahead)
      (y.later ++ ahead') m m' a b handles handles' o o' stand reduced.0 makes closes x.step y.step are are'
      (λ j f. made_later default_value default_header commands (messages_after o.event m) o.state
      (handles ++ o.handle ∷ []) x.later x.events n a' ends ahead q j below sound.well_formed x.rest f) alike in
      let rest : SameView q n a' ends n' b' ends'
      × ((i of : ℕ) (read : Command T U) → slice_get whole of ≡ Some (Receive position)
      → slice_get commands i ≡ Some read → reads_at of read ≡ true → slice_get x.later i ≡ slice_get y.later i) =
      runs_alike commands others x.later y.later ahead ahead' x.events y.events (messages_after o.event m)
      (messages_after o'.event m') n n' o.state o'.state a' b' (handles ++ o.handle ∷ [])
      (handles' ++ o'.handle ∷ []) ends ends'
      reduced.1 next below x.rest y.rest (λ i e. agreed (suc i) e) in
      let told_here : (i of : ℕ) (read : Command T U) → slice_get whole of ≡ Some (Receive position)
      → slice_get (command ∷ commands) i ≡ Some read → reads_at of read ≡ true
      → slice_get (o.reply ∷ x.later) i ≡ slice_get (o'.reply ∷ y.later) i =
      both_told command commands o o' x.later y.later
      (λ of here t. read_alike command other commands others (replies ++ ahead)
      (replies' ++ ahead') m m' a b handles handles' o o' of stand reduced.0 x.step y.step here t) rest.1 in (
        rest.0,
        λ i of read here e t. ap (λ (v : List (Reply T U)). slice_get v i) x.replies_are ∙ told_here i of read here e t
            ∙ sym (ap (λ (v : List (Reply T U)). slice_get v i) y.replies_are),
      )
    where
      both_told : (command : Command T U) (commands : List (Command T U)) (o o' : Outcome T U)
          (later later' : List (Reply T U))
          → ((of : ℕ) → slice_get whole of ≡ Some (Receive position) → reads_at of command ≡ true → o.reply ≡ o'.reply)
          → ((i of : ℕ) (read : Command T U) → slice_get whole of ≡ Some (Receive position)
          → slice_get commands i ≡ Some read → reads_at of read ≡ true
          → slice_get later i ≡ slice_get later' i)
          → (i of : ℕ) (read : Command T U) → slice_get whole of ≡ Some (Receive position)
          → slice_get (command ∷ commands) i ≡ Some read → reads_at of read ≡ true
          → slice_get (o.reply ∷ later) i ≡ slice_get (o'.reply ∷ later') i
      both_told command commands o o' later later' first rest zero of read here e t =
          ap Some (first of here (ap (reads_at of) (same_Some command read e) ∙ t))
      both_told command commands o o' later later' first rest (suc i) of read here e t = rest i of read here e t

module _ {T U : Type 0} (c : ServiceConfig) (position q : ℕ) (beginning after : List (Command T U))
    (all_replies : List (Reply T U))
    (beginning' : List (Command T U)) (all_replies' : List (Reply T U))
    (all_independent : AreIndependent c position beginning all_replies beginning' all_replies')
    (default_value : T) (default_header : U) where
  zero_plus : (n : ℕ) → n ≡ 0 + n
  zero_plus n = omega arith

  new : IsIndependent q (fresh {T = T} {U = U} c)
  new = record {
    well_formed = fresh_is_well_formed c;
    publishers = λ p x e. absurd (none-some x e);
    all_open = λ r y _ e. absurd (none-some y e);
  }

  -- two runs begin alike on new domains
  begin_alike : (commands others : List (Command T U)) (replies replies' : List (Reply T U))
      → ((i : ℕ) (command : Command T U) → slice_get commands i ≡ Some command → slice_get beginning i ≡ Some command)
      → ((i : ℕ) (command : Command T U) → slice_get others i ≡ Some command → slice_get beginning' i ≡ Some command)
      → replies ≡ all_replies → replies' ≡ all_replies' → slice_get all_replies position ≡ Some (SubscriberMade q)
      → StandAlike default_value default_header c position q beginning after all_replies beginning' all_replies'
      all_independent commands others replies replies' no_messages no_messages (fresh c) (fresh c) [] []
  begin_alike commands others replies replies' comes comes' same same' made = record {
    first = begins beginning all_replies c commands replies comes same;
    second = begins beginning' all_replies' c others replies' comes' same';
    fit = none_fit position q (beginning ++ after) all_replies;
    awaits = inl (
      position,
      zero_plus position,
      subst (λ (v : List (Reply T U)). slice_get v position ≡ Some (SubscriberMade q)) (sym same) made,
    );
    made = λ r e. absurd (none-some (Subscriber_handle r) e);
    received = λ i p r n here e. absurd (none-some (Sample_handle p r n) e);
    received' = λ i p r n here e. absurd (none-some (Sample_handle p r n) e);
    config = refl;
    independent = new;
    independent' = new;
    views = refl;
    messages = refl;
    handles_seen = refl;
  }

-- The view of a subscriber is the same after a list and a reduced one, and reads of its samples reply the same.
pub subscribers_are_isolated : {T U : Type 0} → SubscribersAreIsolated T U
subscribers_are_isolated {T} {U} default_value default_header c position q commands reduced later replies replies'
    events events' m m' s s' handles handles' quiet independent h k made agree =
    let ends : SameView q m s handles m' s' handles'
    × ((i of : ℕ) (read : Command T U) → slice_get (commands ++ later) of ≡ Some (Receive position)
    → slice_get commands i ≡ Some read → reads_at of read ≡ true → slice_get replies i ≡ slice_get replies' i) =
    runs_alike default_value default_header c position q commands later replies reduced replies' independent commands
    reduced replies replies' [] [] events events' no_messages no_messages m m' (fresh c)
    (fresh c) s s' [] [] handles handles' quiet
    (begin_alike c position q commands later replies reduced replies' independent default_value default_header commands
    reduced (replies ++ []) (replies' ++ [])
    (λ i command e. e) (λ i command e. e) (append-nil replies) (append-nil replies') made)
    (λ j e. absurd (none-some (SubscriberMade q) e)) h k agree in
    (ends.0, λ i of command here e t. ends.1 i of command (found_earlier commands later of (Receive position) here) e t)

-- ---- at each point of two runs

module _ {T U : Type 0} where
  -- a reduced list's beginning is the beginning's reduced list
  omits_taken : (position : ℕ) (whole commands others : List (Command T U)) (n : ℕ)
      → OmitsOthersFrom position whole commands others
      → OmitsOthersFrom position whole (take n commands) (take n others)
  omits_taken position whole commands others zero h = tt
  omits_taken position whole [] [] (suc n) h = tt
  omits_taken position whole [] (other ∷ others) (suc n) h = absurd h
  omits_taken position whole (command ∷ commands) [] (suc n) h = absurd h
  omits_taken position whole (command ∷ commands) (other ∷ others) (suc n) h =
      (h.0, omits_taken position whole commands others n h.1)

-- The view of a subscriber is the same at each point of two such runs.
pub views_stay_alike : {T U : Type 0} → ViewsStayAlike T U
views_stay_alike {T} {U} default_value default_header c position q n commands reduced replies replies' events events' m
    m' s s' quiet independent made agree x y =
    let well : IsWellFormed x.state =
    (run_sound ample_memory (only_defaults default_value default_header) no_messages (fresh c) [] (take n commands)
    (take n replies) (take n events) x.messages x.state (fresh_is_well_formed c)
    (x.handles, x.before)).0 in
    let below : (j : ℕ) → slice_get (drop n replies) j ≡ Some (SubscriberMade q) → (x.state).next_port ≤ q =
    λ j e. made_later default_value default_header (drop n commands) x.messages x.state x.handles (drop n replies)
    (drop n events) m s (x.after).0 [] q j (λ k f. absurd (none-some (SubscriberMade q) f)) well (x.after).1
    (subst (λ (v : List (Reply T U)). slice_get v j ≡ Some (SubscriberMade q)) (sym (append-nil (drop n replies))) e) in
    (runs_alike default_value default_header c position q commands [] replies reduced replies' independent
    (take n commands) (take n reduced) (take n replies) (take n replies') (drop n replies) (drop n replies')
    (take n events) (take n events')
    no_messages no_messages x.messages y.messages (fresh c) (fresh c) x.state y.state [] [] x.handles y.handles
    (omits_taken position (commands ++ []) commands reduced n
    (subst (λ (whole : List (Command T U)). OmitsOthersFrom position whole commands reduced)
    (sym (append-nil commands)) quiet))
    (begin_alike c position q commands [] replies reduced replies' independent default_value default_header
    (take n commands) (take n reduced) (take n replies ++ drop n replies) (take n replies' ++ drop n replies')
    (λ i command e. (found_taken commands n i command e).1) (λ i command e. (found_taken reduced n i command e).1)
    (take-append-drop n replies) (take-append-drop n replies') made)
    below x.before y.before
    (λ i e. let found = found_taken commands n i (Receive position) e in
    get_taken replies n i found.0 ∙ agree i found.1 ∙ sym (get_taken replies' n i found.0))).0
