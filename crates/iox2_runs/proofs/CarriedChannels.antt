-- Commands on channels, with what a run keeps.
use Rattle.std.proofs.Common.{◌≡◌, ◌⊎◌, ℕ, ◌<◌, Bool, true, false, List, [], ◌∷◌, ◌++◌, map, Option, Some, refl, sym}
use Rattle.std.proofs.Common.{ap, subst, ◌∙◌, le_refl}
use Rattle.std.specs.Prelude.{IfOk, IfErr, slice_set, slice_index_or}
use Rattle.std.specs.declared.result.Result.{Result}
use Rattle.iox2_machine.specs.machine.ChannelCalls.{connection_place}
use Rattle.iox2_machine.specs.machine.Environments.{fixed_handlers}
use Rattle.iox2_machine.specs.machine.Limits.{channel_count}
use Rattle.iox2_machine.specs.machine.Records.{Loan, Environment}
use Rattle.iox2_machine.specs.machine.Sends.{SendToConnection}
use Rattle.iox2_machine.specs.machine.State.{State, Messages}
use Rattle.iox2_machine.specs.declared.errors.SendError.{SendError}
use Rattle.iox2_machine.specs.declared.errors.SendError.TheVariants.{ConnectionBrokenSinceSenderNoLongerExists}
use Rattle.iox2_laws.proofs.ConnectionSendsLeave.{send_to_connection_waits}
use Rattle.iox2_domain.specs.Kept.{Kept as Domain}
use Rattle.iox2_domain.specs.Shows.{Shows}
use Rattle.iox2_pubsub.specs.Live.{IsBlockedSend, blocked_key, written_key}
use Rattle.iox2_pubsub.specs.SendCalls.{IfBlocked, IsOfHandler, SendsToConnection, messages_after_send, result_of_send}
use Rattle.iox2_pubsub.specs.declared.publisher.Publisher.{Publisher as PublisherHandle}
use Rattle.iox2_pubsub.specs.declared.sample_mut.SampleMut.{SampleMut}
use Rattle.iox2_pubsub.specs.declared.send_outcome.SendOutcome.{SendOutcome}
use Rattle.iox2_pubsub.specs.declared.subscriber.Subscriber.{Subscriber as SubscriberHandle}
use Rattle.iox2_commands.specs.Outcomes.{Handle, Event, Outcome, replied}
use Rattle.iox2_commands.specs.Runs.{Defaults}
use Rattle.iox2_commands.specs.Step.{Step, of_publisher_channel, of_subscriber_channel}
use Rattle.iox2_commands.specs.declared.channel_calls.PublisherChannelCall.{PublisherChannelCall}
use Rattle.iox2_commands.specs.declared.channel_calls.SubscriberChannelCall.{SubscriberChannelCall}
use Rattle.iox2_commands.specs.declared.command.Command.{Command}
use Rattle.iox2_commands.specs.declared.command.Command.TheVariants.{SendToConnection as SendLoanTo, ConnectionPlace}
use Rattle.iox2_commands.specs.declared.command.Command.TheVariants.{PublisherChannel, SubscriberChannel}
use Rattle.iox2_commands.specs.declared.reply.Reply.{Reply}
use Rattle.iox2_commands.specs.declared.reply.Reply.TheVariants.{Skipped, Place}
use Rattle.iox2_commands.proofs.ChannelOutcomes.{OnChannels, is_on_channels, on_channels}
use Rattle.iox2_runs.specs.Carries.{entry_for, entries_with, Carries}
use Rattle.iox2_runs.specs.RunSteps.{Comes}
use Rattle.iox2_runs.specs.SendReplies.{reply_to_send, made_by_send}
use Rattle.iox2_runs.specs.Tables.{TableEntry, No_entry, IsUnblockedPort, HasNoBox, IsTable}
use Rattle.iox2_runs.specs.declared.runs.made.Made.{Made}
use Rattle.iox2_runs.specs.declared.runs.made.Made.TheVariants.{Nothing, Publisher as MadePublisher}
use Rattle.iox2_runs.specs.declared.runs.made.Made.TheVariants.{Subscriber as MadeSubscriber, Written}
use Rattle.iox2_runs.proofs.CarriedLoans.{lender-unboxed, sent-by}
use Rattle.iox2_runs.proofs.ChannelStates.{with_channel, without_channel, none_with_channel, channels_stay}
use Rattle.iox2_runs.proofs.ChannelStates.{channels_come, channels_wait}
use Rattle.iox2_runs.proofs.FixedSends.{connection_sends_fixed}
use Rattle.iox2_runs.proofs.TableCalls.{at_none, at_some, quiet_comes, skip_comes, connection_without}
use Rattle.iox2_runs.proofs.TableCalls.{connection_skipped, connection_waiting, connection_comes}
use Rattle.iox2_runs.proofs.TableEntries.{entries-set, entry-stands, lacks}
use Rattle.iox2_runs.proofs.TableLooks.{is_publisher_entry, is_subscriber_entry, is_written_entry, handle_of}
use Rattle.iox2_runs.proofs.TableLooks.{has_publisher, has_subscriber, has_written, lacks_any_publisher}
use Rattle.iox2_runs.proofs.TableLooks.{lacks_subscriber}
use Rattle.iox2_runs.proofs.TableSteps.{Nobody}

-- connections have that channel in each state that the domain shows
there-shown : {T U F G : Type 0} (domain : Domain T U F G) (channel : ℕ) → channel < channel_count domain.config
    → (m : Messages T U) (s : State T U) → Shows domain m s → channel < channel_count s.config
there-shown {T} {U} domain channel there m s shown =
    subst (λ (t : State T U). channel < channel_count t.config) (sym shown.state) there

-- or they lack it in each
missing-shown : {T U F G : Type 0} (domain : Domain T U F G) (channel : ℕ) → (channel < channel_count domain.config → ⊥)
    → (m : Messages T U) (s : State T U) → Shows domain m s
    → channel < channel_count s.config → ⊥
missing-shown {T} {U} domain channel missing m s shown there =
    missing (subst (λ (t : State T U). channel < channel_count t.config) shown.state there)

-- ---- questions about channels, and changes of them

module _ {T U F G : Type 0} (environment : Environment) (defaults : Defaults T U) (old new : Domain T U F G)
    (table : List Made) where
  -- the command steps so
  channels-carried : (command : Command T U) (reply : Reply T U) → is_on_channels command ≡ true
      → ((m : Messages T U) (s : State T U) (handles : List Handle) (events : List (Event T U)) → Shows old m s
      → IsTable s handles events (map entry_for table)
      → (default_value : T) (default_header : U) → (o : Outcome T U)
      × Step environment default_value default_header m s handles command o × Shows new m o.state × (o.reply ≡ reply))
      → Carries environment defaults old new table command reply table Nothing
  channels-carried command reply is steps =
      λ m s handles events shown w default_value default_header is_value is_header.
      let stepped = steps m s handles events shown w default_value default_header in
      let k : OnChannels s stepped.0 =
      on_channels environment default_value default_header m s handles command stepped.0 is stepped.1 in
      let s' : State T U = record s { channels = k.channels } in
      subst (λ (r : Reply T U). Comes environment defaults (Shows new) m s handles events command r
      (entries_with table Nothing)) (sym (ap (λ (o : Outcome T U). o.reply) k.is) ∙ stepped.3)
      (quiet_comes environment defaults (Shows new) m s handles events
      (map entry_for table) w default_value default_header is_value is_header command k.reply s'
      (subst (Step environment default_value default_header m s handles command) k.is stepped.1)
      (subst (λ (o : Outcome T U). Shows new m o.state) k.is stepped.2)
      (channels_stay s k.channels) (channels_come s k.channels) (channels_wait s k.channels Nobody) (λ n low. refl)
      (le_refl s.next_message))

  module _ (of : ℕ) where
    pub publisher_channel_carried : (h : PublisherHandle) (channel place : ℕ) (call : PublisherChannelCall)
        (reply : Reply T U) → slice_index_or table of Nothing ≡ MadePublisher h
        → channel < channel_count old.config
        → ((m : Messages T U) (s : State T U) → Shows old m s
        → Shows new m (of_publisher_channel s h.id channel place call).state
        × ((of_publisher_channel s h.id channel place call).reply ≡ reply))
        → Carries environment defaults old new table (PublisherChannel of channel place call) reply table Nothing
    publisher_channel_carried h channel place call reply at there replies =
        channels-carried (PublisherChannel of channel place call) reply refl
        (λ m s handles events shown w default_value default_header.
        let found = has_publisher s handles events (map entry_for table) w of h.service_id h.id
        (entry-stands table of (MadePublisher h) at (λ e. let clash : MadePublisher h ≡ Nothing = e in cc)) in (
          of_publisher_channel s h.id channel place call,
          at_some _ _ _ (h.id, found.0)
              (with_channel s channel _ (there-shown old channel there m s shown) ∙ found.1) refl,
          (replies m s shown).0,
          (replies m s shown).1,
        ))

    pub subscriber_channel_carried : (h : SubscriberHandle) (channel : ℕ) (call : SubscriberChannelCall)
        (reply : Reply T U) → slice_index_or table of Nothing ≡ MadeSubscriber h
        → channel < channel_count old.config
        → ((m : Messages T U) (s : State T U) → Shows old m s
        → Shows new m (of_subscriber_channel s h.id channel call).state
        × ((of_subscriber_channel s h.id channel call).reply ≡ reply))
        → Carries environment defaults old new table (SubscriberChannel of channel call) reply table Nothing
    subscriber_channel_carried h channel call reply at there replies =
        channels-carried (SubscriberChannel of channel call) reply refl
        (λ m s handles events shown w default_value default_header.
        let found = has_subscriber s handles events (map entry_for table) w of h.service_id h.id
        (entry-stands table of (MadeSubscriber h) at (λ e. let clash : MadeSubscriber h ≡ Nothing = e in cc)) in (
          of_subscriber_channel s h.id channel call,
          at_some _ _ _ (h.id, found.0)
              (with_channel s channel _ (there-shown old channel there m s shown) ∙ found.1) refl,
          (replies m s shown).0,
          (replies m s shown).1,
        ))

module _ {T U F G : Type 0} (environment : Environment) (defaults : Defaults T U) (domain : Domain T U F G)
    (table : List Made) (of : ℕ) where
  pub place_carried : (h : PublisherHandle) (receiver : ℕ) (place : Option ℕ)
      → slice_index_or table of Nothing ≡ MadePublisher h
      → ((m : Messages T U) (s : State T U) → Shows domain m s → place ≡ connection_place s h.id receiver)
      → Carries environment defaults domain domain table (ConnectionPlace of receiver) (Place place) table Nothing
  place_carried h receiver place at tells =
      channels-carried environment defaults domain domain table (ConnectionPlace of receiver) (Place place) refl
      (λ m s handles events shown w default_value default_header.
      let found = has_publisher s handles events (map entry_for table) w of h.service_id h.id
      (entry-stands table of (MadePublisher h) at (λ e. let clash : MadePublisher h ≡ Nothing = e in cc)) in (
        replied (Place (connection_place s h.id receiver)) s,
        at_some _ _ _ (h.id, found.0) found.1 refl,
        shown,
        ap (λ (v : Option ℕ). Place v) (sym (tells m s shown)),
      ))

  -- ---- skipped

  -- The command is skipped.
  abbrev pub Skips : Command T U → Type 0
  Skips command = Carries environment defaults domain domain table command Skipped table Nothing

  pub place_passed : (receiver : ℕ) → is_publisher_entry (entry_for (slice_index_or table of Nothing)) ≡ false
      → Skips (ConnectionPlace of receiver)
  place_passed receiver other = λ m s handles events shown w default_value default_header is_value is_header.
      skip_comes environment defaults (Shows domain) m s handles events
      (map entry_for table) w default_value default_header is_value is_header (ConnectionPlace of receiver)
      (at_none _ _ _ (lacks_any_publisher s handles events (map entry_for table) w of
      (lacks is_publisher_entry refl table of other)) refl) shown

  pub publisher_channel_passed : (channel place : ℕ) (call : PublisherChannelCall)
      → is_publisher_entry (entry_for (slice_index_or table of Nothing)) ≡ false
      → Skips (PublisherChannel of channel place call)
  publisher_channel_passed channel place call other =
      λ m s handles events shown w default_value default_header is_value is_header.
      skip_comes environment defaults (Shows domain) m s handles events (map entry_for table) w default_value
      default_header is_value is_header (PublisherChannel of channel place call)
      (at_none _ _ _ (none_with_channel s channel _
      (lacks_any_publisher s handles events (map entry_for table) w of (lacks is_publisher_entry refl table of other)))
      refl) shown

  pub subscriber_channel_passed : (channel : ℕ) (call : SubscriberChannelCall)
      → is_subscriber_entry (entry_for (slice_index_or table of Nothing)) ≡ false
      → Skips (SubscriberChannel of channel call)
  subscriber_channel_passed channel call other =
      λ m s handles events shown w default_value default_header is_value is_header.
      skip_comes environment defaults (Shows domain) m s handles events
      (map entry_for table) w default_value default_header is_value is_header (SubscriberChannel of channel call)
      (at_none _ _ _ (none_with_channel s channel _
      (lacks_subscriber s handles events (map entry_for table) w of (lacks is_subscriber_entry refl table of other)))
      refl) shown

  -- connections lack the channel
  module _ (channel : ℕ) (missing : channel < channel_count domain.config → ⊥) where
    pub publisher_channel_missing : (place : ℕ) (call : PublisherChannelCall)
        → Skips (PublisherChannel of channel place call)
    publisher_channel_missing place call = λ m s handles events shown w default_value default_header is_value is_header.
        skip_comes environment defaults (Shows domain) m s handles events (map entry_for table) w default_value
        default_header is_value is_header (PublisherChannel of channel place call)
        (at_none _ _ _ (without_channel s channel _ (missing-shown domain channel missing m s shown)) refl) shown

    pub subscriber_channel_missing : (call : SubscriberChannelCall) → Skips (SubscriberChannel of channel call)
    subscriber_channel_missing call = λ m s handles events shown w default_value default_header is_value is_header.
        skip_comes environment defaults (Shows domain) m s handles events
        (map entry_for table) w default_value default_header is_value is_header (SubscriberChannel of channel call)
        (at_none _ _ _ (without_channel s channel _ (missing-shown domain channel missing m s shown)) refl) shown

    pub connection_missing : (place : ℕ) → Skips (SendLoanTo of channel place)
    connection_missing place = λ m s handles events shown w default_value default_header is_value is_header.
        connection_without environment defaults (Shows domain) m s handles events
        (map entry_for table) w default_value default_header is_value is_header of channel place
        (missing-shown domain channel missing m s shown) shown

  -- ---- a loan is sent to one connection

  pub connection_passed : (channel place : ℕ) → is_written_entry (entry_for (slice_index_or table of Nothing)) ≡ false
      → Skips (SendLoanTo of channel place)
  connection_passed channel place other = λ m s handles events shown w default_value default_header is_value is_header.
      connection_skipped environment defaults (Shows domain) m s handles events
      (map entry_for table) w default_value default_header is_value is_header of channel place
      (lacks is_written_entry refl table of other) shown

  -- its publisher waits for a receiver
  pub connection_held_up : (channel place : ℕ) (h : SampleMut) → slice_index_or table of Nothing ≡ Written h
      → ((m : Messages T U) (s : State T U) → Shows domain m s → IsUnblockedPort s h.loan.publisher → ⊥)
      → Skips (SendLoanTo of channel place)
  connection_held_up channel place h at waits =
      λ m s handles events shown w default_value default_header is_value is_header.
      connection_waiting environment defaults (Shows domain) m s handles events
      (map entry_for table) w default_value default_header is_value is_header of channel place
      h.service_id h.loan.publisher h.loan.number
      (entry-stands table of (Written h) at (λ e. let clash : Written h ≡ Nothing = e in cc)) (waits m s shown) shown

module _ {T U F G : Type 0} (environment : Environment) (defaults : Defaults T U) (old new : Domain T U F G)
    (table table' : List Made) (of : ℕ) where
  -- the loan is sent: one receiver takes it or none, or it waits for one, or its publisher is gone, or a handler failed
  -- the send
  pub connection_carried : (channel place : ℕ) (h : SampleMut) (outcome : Result SendOutcome SendError)
      → slice_index_or table of Nothing ≡ Written h → channel < channel_count old.config
      → ((m : Messages T U) (s : State T U) → Shows old m s → IsUnblockedPort s h.loan.publisher)
      → ((m : Messages T U) (s : State T U) (l : Loan T U) → Shows old m s → s.loans h.loan.number ≡ Some l
      → (s' : State T U) × Shows new (messages_after_send m h.loan.number l outcome) s'
      × SendsToConnection environment s h.loan.number l channel place outcome s')
      → IfOk outcome
      (λ came. IfBlocked came (λ blocked. IsBlockedSend new blocked × (blocked_key blocked ≡ written_key h)))
      → IfErr outcome (λ error. (error ≡ ConnectionBrokenSinceSenderNoLongerExists) ⊎ IsOfHandler error)
      → table' ≡ slice_set table of Nothing
      → Carries fixed_handlers defaults old new table (SendLoanTo of channel place) (reply_to_send outcome) table'
      (made_by_send outcome)
  connection_carried channel place h outcome at there free sends blocked gone is =
      λ m s handles events shown w default_value default_header is_value is_header.
      let stand = entry-stands table of (Written h) at (λ e. let clash : Written h ≡ Nothing = e in cc) in
      let named =
      has_written s handles events (map entry_for table) w of h.service_id h.loan.publisher h.loan.number stand in
      let sent = sends m s named.0 shown named.3 in
      let its = handle_of s handles events (map entry_for table) w of (entry_for (Written h)) stand in
      let unboxed : HasNoBox s (named.0).publisher = subst (HasNoBox s) (sym named.4) (its.2).3 in
      let fixed : SendsToConnection fixed_handlers s h.loan.number named.0 channel place outcome sent.0 =
      connection_sends_fixed environment s h.loan.number named.0 channel place sent.0
      (result_of_send outcome) unboxed sent.2 in
      let after : map entry_for table' ≡ slice_set (map entry_for table) of No_entry =
      ap (λ (t : List Made). map entry_for t) is ∙ entries-set table of Nothing in
      subst (λ (ks : List TableEntry). Comes fixed_handlers defaults (Shows new) m s handles events
      (SendLoanTo of channel place) (reply_to_send outcome) (ks ++ entry_for (made_by_send outcome) ∷ [])) (sym after)
      (sent-by defaults new table of h m s handles events named.0 named.4 (SendLoanTo of channel place)
      (λ s' result. SendToConnection fixed_handlers s h.loan.number named.0 channel place s' result)
      (λ s' result. connection_comes fixed_handlers defaults (Shows new) m s handles events
      (map entry_for table) w default_value default_header is_value is_header of channel place
      h.service_id h.loan.publisher h.loan.number (there-shown old channel there m s shown) stand
      (free m s shown) named.0 named.3 s' result)
      (λ s' result sends. lender-unboxed table of h s handles events w stand (named.0).publisher named.4 s'
      (send_to_connection_waits fixed_handlers s h.loan.number named.0 channel place s' result sends
      (λ i. i ≡ (named.0).publisher) refl))
      outcome blocked gone sent.0 sent.1 fixed)
