-- In a run, a received message names who sent it, and a read gives the message as it was sent.
use Rattle.std.proofs.Common.{◌≡◌, ℕ, zero, suc, ◌+◌, ◌<◌, true, false, cond, List, [], ◌∷◌, ◌++◌, length, refl, sym}
use Rattle.std.proofs.Common.{ap, subst, ◌∙◌, arith, Option, None, Some, ◌⊎◌, inl, ⊎_elim}
use Rattle.std.specs.Prelude.{MatchOption, slice_get, take}
use Rattle.std.specs.Option.{option_map_or}
use Rattle.std.proofs.lemmas.Option.{none-some, same_Some}
use Rattle.std.proofs.lemmas.Bool.{true≢false}
use Rattle.iox2_machine.specs.machine.Numbers.{contains, IsOnce}
use Rattle.iox2_machine.specs.machine.Mailbox.{is_borrowed}
use Rattle.iox2_machine.specs.machine.Records.{Entry, Environment}
use Rattle.iox2_machine.specs.machine.State.{State, Messages}
use Rattle.iox2_machine.specs.machine.WellFormed.{IsWellFormed}
use Rattle.iox2_laws.proofs.Cases.{by_option}
use Rattle.iox2_laws.proofs.NumberLemmas.{contains_first}
use Rattle.iox2_commands.specs.Outcomes.{Handle, Sample_handle, Event, Message_received, Outcome, messages_after}
use Rattle.iox2_commands.specs.Outcomes.{replied, skipped}
use Rattle.iox2_commands.specs.Step.{Step, sample_at}
use Rattle.iox2_commands.specs.Runs.{Run, RunFrom, Defaults, received}
use Rattle.iox2_commands.specs.RunLaws.{WasSent, IsUnreleased}
use Rattle.iox2_commands.specs.declared.command.Command.{Command}
use Rattle.iox2_commands.specs.declared.command.Command.TheVariants.{Read, ReadHeader, ReadUserHeader, Release}
use Rattle.iox2_commands.specs.declared.reply.Reply.{Reply}
use Rattle.iox2_commands.specs.declared.reply.Reply.TheVariants.{Skipped, Sample, Cell, Header, UserHeader}
use Rattle.iox2_commands.proofs.GrowingLists.{old_or_last, found_earlier, found_last, longer}
use Rattle.iox2_commands.proofs.Reached.{rest_absent, rest_once, received_first, HasReached, started, start, told}
use Rattle.iox2_commands.proofs.Reached.{goes_on, sent_in_all}
use Rattle.iox2_commands.proofs.ReadSteps.{PastSends, past_after, IsSpared, IsTold}

module _ {T U : Type 0} where
  -- ---- samples

  abbrev NamesPublisher : PastSends T U → List (Event T U) → (i origin : ℕ) → Type 0
  NamesPublisher past events i origin =
      (q n : ℕ) × (entry : Entry T U) × (slice_get events i ≡ Some (Message_received origin q n))
      × (past.WasSent origin n entry ⊎ WasSent origin n entry (take i events)) × ((entry.header).publisher_id ≡ origin)

  samples_from : (environment : Environment) (defaults : Defaults T U) (past : PastSends T U) (m : Messages T U)
      (s : State T U) (handles : List Handle)
      (commands : List (Command T U)) (replies : List (Reply T U)) (events : List (Event T U)) (m' : Messages T U)
      (s' : State T U)
      → HasReached past m s handles → RunFrom environment defaults m s handles commands replies events m' s'
      → (i origin : ℕ) → slice_get replies i ≡ Some (Sample origin) → NamesPublisher past events i origin
  samples_from environment defaults past m s handles [] [] [] m' s' reached h i origin e = absurd (none-some _ e)
  samples_from environment defaults past m s handles (command ∷ commands) (reply ∷ replies)
      (event ∷ events) m' s' reached h zero origin e =
      let tells : IsTold past s handles command (h.1).4 =
      told environment (h.1).0 (h.1).1 past m s handles reached command (h.1).4 (h.1).5 in
      let found : (q n : ℕ) × (((h.1).4).event ≡ Message_received origin q n) =
      tells.origin origin ((h.1).6 ∙ same_Some reply (Sample origin) e) in
      let sent : (entry : Entry T U) × past.WasSent origin found.1 entry × ((entry.header).publisher_id ≡ origin) =
      (tells.received origin found.0 found.1 found.2).0 in
      (found.0, found.1, sent.0, ap (λ (v : Event T U). Some v) (sym (h.1).7 ∙ found.2), inl sent.1, sent.2)
  samples_from environment defaults past m s handles (command ∷ commands) (reply ∷ replies)
      (event ∷ events) m' s' reached h (suc i) origin e =
      let rest : NamesPublisher (past_after past ((h.1).4).event) events i origin =
      samples_from environment defaults (past_after past ((h.1).4).event) (messages_after ((h.1).4).event m)
      ((h.1).4).state
      (handles ++ ((h.1).4).handle ∷ []) commands replies events m' s'
      (goes_on environment (h.1).0 (h.1).1 past m s handles reached command (h.1).4 (h.1).5)
      (h.0, (h.1).8) i origin e in (
        rest.0,
        rest.1,
        rest.2,
        rest.3,
        sent_in_all past origin rest.1 rest.2 ((h.1).4).event event (take i events) (h.1).7 rest.4,
        rest.5,
      )
  samples_from environment defaults past m s handles _ _ _ m' s' reached h i origin e = absurd h.1

  -- The reply to a receive names the publisher that sent the message before it was received, and so does the message's
  -- header.
  pub samples_name_their_publisher : (environment : Environment) (defaults : Defaults T U) (m m' : Messages T U)
      (s s' : State T U)
      (commands : List (Command T U)) (replies : List (Reply T U)) (events : List (Event T U)) → IsWellFormed s
      → Run environment defaults m s commands replies events m' s'
      → (i origin : ℕ) → slice_get replies i ≡ Some (Sample origin)
      → (q n : ℕ) × (entry : Entry T U) × (slice_get events i ≡ Some (Message_received origin q n))
      × WasSent origin n entry (take i events)
      × ((entry.header).publisher_id ≡ origin)
  samples_name_their_publisher environment defaults m m' s s' commands replies events w h i origin e =
      let found : NamesPublisher (started s) events i origin =
      samples_from environment defaults (started s) m s [] commands replies events m' s'
      (start m s w) h i origin e in
      (found.0, found.1, found.2, found.3, ⊎_elim (λ v. absurd v) (λ sent. sent) found.4, found.5)

  -- ---- reads

  module _ (environment : Environment) (default_value : T) (default_header : U) (m : Messages T U) (s : State T U)
      (handles : List Handle) (at p q n : ℕ)
      (entry : Entry T U)
      (named : slice_get handles at ≡ Some (Sample_handle p q n)) (held : is_borrowed n (s.mailboxes p q) ≡ true)
      (kept : m n ≡ Some entry) (o : Outcome T U) where
    -- the sample of a handle
    abbrev sample_of : Option Handle → Option (ℕ × ℕ × ℕ)
    sample_of v =
        elim v [ Some (Sample_handle p q n) ↦ cond (is_borrowed n (s.mailboxes p q)) (Some (p, q, n)) None | _ ↦ None ]

    -- the handle names the sample
    found : sample_at s handles at ≡ Some (p, q, n)
    found = ap sample_of named ∙ rw held refl

    -- a read gives the value
    read_gives : (index : ℕ) → Step environment default_value default_header m s handles (Read at index) o
        → o.reply ≡ option_map_or (λ value. Cell (Some value)) (slice_get entry.values index) Skipped
    read_gives index h =
        let k : MatchOption (m n) ⊥ (λ (entry : Entry T U). MatchOption (slice_get entry.values index) (o ≡ skipped s)
        (λ value. o ≡ replied (Cell (Some value)) s)) = rw found at h in
        let j : MatchOption (slice_get entry.values index) (o ≡ skipped s)
        (λ value. o ≡ replied (Cell (Some value)) s) = rw kept at k in
        by_option (o.reply ≡ option_map_or (λ value. Cell (Some value)) (slice_get entry.values index) Skipped)
        (slice_get entry.values index) _ _ j
        (λ none e. ap (λ (o : Outcome T U). o.reply) e ∙ rw none refl)
        (λ value some e. ap (λ (o : Outcome T U). o.reply) e ∙ rw some refl)

    header_gives : Step environment default_value default_header m s handles (ReadHeader at) o
        → o.reply ≡ Header entry.header
    header_gives h =
        let k : MatchOption (m n) ⊥ (λ (entry : Entry T U). o ≡ replied (Header entry.header) s) = rw found at h in
        let j : o ≡ replied (Header entry.header) s = rw kept at k in
        ap (λ (o : Outcome T U). o.reply) j

    user_header_gives : Step environment default_value default_header m s handles (ReadUserHeader at) o
        → o.reply ≡ UserHeader entry.user_header
    user_header_gives h =
        let k : MatchOption (m n) ⊥ (λ (entry : Entry T U). o ≡ replied (UserHeader entry.user_header) s) =
        rw found at h in
        let j : o ≡ replied (UserHeader entry.user_header) s = rw kept at k in
        ap (λ (o : Outcome T U). o.reply) j

  -- what is received isn't absent, and not received again
  again : (p q n : ℕ) (event : Event T U) (events : List (Event T U)) → event ≡ Message_received p q n
      → contains (received p q (event ∷ events)) n ≡ false → ⊥
  again p q n event events e absent =
      let first : received p q (event ∷ events) ≡ n ∷ received p q events =
      ap (λ (v : Event T U). received p q (v ∷ events)) e ∙ received_first p q n events in
      true≢false (sym (contains_first n (received p q events)) ∙ ap (λ ns. contains ns n) (sym first) ∙ absent)

  once_only : (p q n : ℕ) (event : Event T U) (events : List (Event T U)) → event ≡ Message_received p q n
      → IsOnce (received p q (event ∷ events))
      → contains (received p q events) n ≡ false
  once_only p q n event events e once =
      let first : received p q (event ∷ events) ≡ n ∷ received p q events =
      ap (λ (v : Event T U). received p q (v ∷ events)) e ∙ received_first p q n events in
      (subst IsOnce first once).0

  -- what a read through the handle at a position gives
  abbrev Gives : (at : ℕ) → Entry T U → List (Command T U) → List (Reply T U) → (i : ℕ) → Type 0
  Gives at entry commands replies i =
      ((index : ℕ) → slice_get commands i ≡ Some (Read at index) → slice_get replies i ≡ Some
      (option_map_or (λ value. Cell (Some value)) (slice_get entry.values index) Skipped))
      × (slice_get commands i ≡ Some (ReadHeader at) → slice_get replies i ≡ Some (Header entry.header))
      × (slice_get commands i ≡ Some (ReadUserHeader at) → slice_get replies i ≡ Some (UserHeader entry.user_header))

  -- reads while the sample is borrowed
  held_reads : (environment : Environment) (defaults : Defaults T U) (past : PastSends T U) (m : Messages T U)
      (s : State T U) (handles : List Handle)
      (commands : List (Command T U)) (replies : List (Reply T U)) (events : List (Event T U)) (m' : Messages T U)
      (s' : State T U)
      → HasReached past m s handles → RunFrom environment defaults m s handles commands replies events m' s'
      → (at p q n : ℕ) (entry : Entry T U) → past.WasSent p n entry
      → slice_get handles at ≡ Some (Sample_handle p q n)
      → ((k : ℕ) → slice_get handles k ≡ Some (Sample_handle p q n) → k ≡ at)
      → contains (received p q events) n ≡ false → is_borrowed n (s.mailboxes p q) ≡ true
      → (i : ℕ) → ((j : ℕ) → j < i → slice_get commands j ≡ Some (Release at) → ⊥) → Gives at entry commands replies i
  held_reads environment defaults past m s handles [] [] [] m' s' reached h at p q n entry sent named only never held i
      unreleased =
      (λ index e. absurd (none-some _ e), λ e. absurd (none-some _ e), λ e. absurd (none-some _ e))
  held_reads environment defaults past m s handles (command ∷ commands) (reply ∷ replies)
      (event ∷ events) m' s' reached h at p q n entry sent named only never held zero unreleased =
      let kept : m n ≡ Some entry = reached.kept p n entry sent in
      let is : (wanted : Command T U) → Some command ≡ Some wanted
      → Step environment (h.1).0 (h.1).1 m s handles wanted (h.1).4 = λ wanted e.
      subst (λ (c : Command T U). Step environment (h.1).0 (h.1).1 m s handles c (h.1).4) (same_Some command wanted e)
      (h.1).5 in
      let answer : (r : Reply T U) → ((h.1).4).reply ≡ r → Some reply ≡ Some r =
      λ r e. ap (λ (r : Reply T U). Some r) (sym (h.1).6 ∙ e) in (
        λ index e. answer _ (read_gives environment (h.1).0 (h.1).1 m s handles at p q n entry named held kept
            (h.1).4 index (is (Read at index) e)),
        λ e. answer _ (header_gives environment (h.1).0 (h.1).1 m s handles at p q n entry named held kept (h.1).4
            (is (ReadHeader at) e)),
        λ e. answer _ (user_header_gives environment (h.1).0 (h.1).1 m s handles at p q n entry named held kept (h.1).4
            (is (ReadUserHeader at) e)),
      )
  held_reads environment defaults past m s handles (command ∷ commands) (reply ∷ replies)
      (event ∷ events) m' s' reached h at p q n entry sent named only never held (suc i) unreleased =
      let tells : IsTold past s handles command (h.1).4 =
      told environment (h.1).0 (h.1).1 past m s handles reached command (h.1).4 (h.1).5 in
      let spared : IsSpared handles command p q n = λ of e f.
      unreleased 0 (omega arith) (ap (λ (c : Command T U). Some c) (e ∙ ap (λ k. Release k) (only of f))) in
      held_reads environment defaults (past_after past ((h.1).4).event) (messages_after ((h.1).4).event m)
      ((h.1).4).state
      (handles ++ ((h.1).4).handle ∷ []) commands replies events m' s'
      (goes_on environment (h.1).0 (h.1).1 past m s handles reached command (h.1).4 (h.1).5)
      (h.0, (h.1).8) at p q n entry (inl sent)
      (found_earlier handles (((h.1).4).handle ∷ []) at (Sample_handle p q n) named)
      (λ k e. ⊎_elim (λ old. only k old)
      (λ new. absurd (again p q n event events (sym (h.1).7 ∙ tells.sampled p q n new.1) never))
      (old_or_last handles ((h.1).4).handle k (Sample_handle p q n) e))
      (rest_absent p q n event events never) (tells.borrowed p q n spared held)
      i (λ j low e. unreleased (suc j) (omega arith) e)
  held_reads environment defaults past m s handles _ _ _ m' s' reached h at p q n entry sent named only never held i
      unreleased = absurd h.1

  -- the sample that was received there has one entry, which each read until its release gives
  abbrev ReadsSo : PastSends T U → List (Command T U) → List (Reply T U) → List (Event T U) → (at p n of : ℕ) → Type 0
  ReadsSo past commands replies events at p n of =
      (entry : Entry T U) × (past.WasSent p n entry ⊎ WasSent p n entry (take of events))
      × ((i : ℕ) → of < i → ((j : ℕ) → of < j → j < i → slice_get commands j ≡ Some (Release at) → ⊥)
      → Gives at entry commands replies i)

  -- the reads behind the first command are those of the rest
  reads_behind : (command : Command T U) (commands : List (Command T U)) (reply : Reply T U)
      (replies : List (Reply T U)) (at : ℕ) (entry : Entry T U)
      → ((i : ℕ) → ((j : ℕ) → j < i → slice_get commands j ≡ Some (Release at) → ⊥) → Gives at entry commands replies i)
      → (i : ℕ) → 0 < i → ((j : ℕ) → 0 < j → j < i → slice_get (command ∷ commands) j ≡ Some (Release at) → ⊥)
      → Gives at entry (command ∷ commands) (reply ∷ replies) i
  reads_behind command commands reply replies at entry gives zero low unreleased = absurd (omega arith)
  reads_behind command commands reply replies at entry gives (suc i) low unreleased =
      gives i (λ j below f. unreleased (suc j) (omega arith) (omega arith) f)

  -- and so are those of a sample of the rest
  reads_later : (command : Command T U) (commands : List (Command T U)) (reply : Reply T U) (replies : List (Reply T U))
      (at of : ℕ) (entry : Entry T U)
      → ((i : ℕ) → of < i → ((j : ℕ) → of < j → j < i → slice_get commands j ≡ Some (Release at) → ⊥)
      → Gives at entry commands replies i)
      → (i : ℕ) → suc of < i → ((j : ℕ) → suc of < j → j < i → slice_get (command ∷ commands) j ≡ Some (Release at) → ⊥)
      → Gives at entry (command ∷ commands) (reply ∷ replies) i
  reads_later command commands reply replies at of entry gives zero low unreleased = absurd (omega arith)
  reads_later command commands reply replies at of entry gives (suc i) low unreleased =
      gives i (omega arith) (λ j above below f. unreleased (suc j) (omega arith) (omega arith) f)

  -- what was received before isn't received again
  abbrev NeverAgain : List Handle → List (Event T U) → Type 0
  NeverAgain handles events =
      (p q n k : ℕ) → slice_get handles k ≡ Some (Sample_handle p q n) → contains (received p q events) n ≡ false

  reads_from : (environment : Environment) (defaults : Defaults T U) (past : PastSends T U) (m : Messages T U)
      (s : State T U) (handles : List Handle)
      (commands : List (Command T U)) (replies : List (Reply T U)) (events : List (Event T U)) (m' : Messages T U)
      (s' : State T U)
      → HasReached past m s handles → RunFrom environment defaults m s handles commands replies events m' s'
      → NeverAgain handles events → ((p q : ℕ) → IsOnce (received p q events))
      → (of at p q n : ℕ) → at ≡ length handles + of → slice_get events of ≡ Some (Message_received p q n)
      → ReadsSo past commands replies events at p n of
  reads_from environment defaults past m s handles [] [] [] m' s' reached h never once of at p q n place e =
      absurd (none-some _ e)
  reads_from environment defaults past m s handles (command ∷ commands) (reply ∷ replies)
      (event ∷ events) m' s' reached h never once
      zero at p q n place e =
      let tells : IsTold past s handles command (h.1).4 =
      told environment (h.1).0 (h.1).1 past m s handles reached command (h.1).4 (h.1).5 in
      let this : event ≡ Message_received p q n = same_Some event (Message_received p q n) e in
      let got : ((entry : Entry T U) × past.WasSent p n entry × ((entry.header).publisher_id ≡ p))
      × (((h.1).4).handle ≡ Sample_handle p q n)
      × (is_borrowed n ((((h.1).4).state).mailboxes p q) ≡ true) =
      tells.received p q n ((h.1).7 ∙ this) in
      let here : at ≡ length handles = omega arith in
      let last : slice_get (handles ++ ((h.1).4).handle ∷ []) at ≡ Some (Sample_handle p q n) =
      ap (slice_get (handles ++ ((h.1).4).handle ∷ [])) here ∙ found_last handles ((h.1).4).handle
      ∙ ap (λ (v : Handle). Some v) got.1 in (
        (got.0).0,
        inl (got.0).1,
        reads_behind command commands reply replies at (got.0).0
            (held_reads environment defaults (past_after past ((h.1).4).event) (messages_after ((h.1).4).event m)
            ((h.1).4).state
            (handles ++ ((h.1).4).handle ∷ []) commands replies events m' s'
            (goes_on environment (h.1).0 (h.1).1 past m s handles reached command (h.1).4 (h.1).5)
            (h.0, (h.1).8) at p q n (got.0).0 (inl (got.0).1) last
            (λ k f. ⊎_elim (λ old. absurd (again p q n event events this (never p q n k old))) (λ new. new.0 ∙ sym here)
            (old_or_last handles ((h.1).4).handle k (Sample_handle p q n) f))
            (once_only p q n event events this (once p q)) got.2),
      )
  reads_from environment defaults past m s handles (command ∷ commands) (reply ∷ replies)
      (event ∷ events) m' s' reached h never once
      (suc of) at p q n place e =
      let tells : IsTold past s handles command (h.1).4 =
      told environment (h.1).0 (h.1).1 past m s handles reached command (h.1).4 (h.1).5 in
      let rest : ReadsSo (past_after past ((h.1).4).event) commands replies events at p n of =
      reads_from environment defaults (past_after past ((h.1).4).event) (messages_after ((h.1).4).event m)
      ((h.1).4).state
      (handles ++ ((h.1).4).handle ∷ []) commands replies events m' s'
      (goes_on environment (h.1).0 (h.1).1 past m s handles reached command (h.1).4 (h.1).5) (h.0, (h.1).8)
      (λ p q n k f. ⊎_elim (λ old. rest_absent p q n event events (never p q n k old))
      (λ new. once_only p q n event events (sym (h.1).7 ∙ tells.sampled p q n new.1) (once p q))
      (old_or_last handles ((h.1).4).handle k (Sample_handle p q n) f))
      (λ p q. rest_once p q event events (once p q))
      of at p q n (omega (arith, longer handles ((h.1).4).handle)) e in (
        rest.0,
        sent_in_all past p n rest.0 ((h.1).4).event event (take of events) (h.1).7 rest.1,
        reads_later command commands reply replies at of rest.0 rest.2,
      )
  reads_from environment defaults past m s handles _ _ _ m' s' reached h never once of at p q n place e = absurd h.1

  -- Each sample has one entry, with which its message was sent before it was received, and every read until the release
  -- gives that entry, where no message is received twice.
  pub reads_give_what_was_sent : (environment : Environment) (defaults : Defaults T U) (m m' : Messages T U)
      (s s' : State T U)
      (commands : List (Command T U)) (replies : List (Reply T U)) (events : List (Event T U))
      → ((p q : ℕ) → IsOnce (received p q events))
      → IsWellFormed s → Run environment defaults m s commands replies events m' s'
      → (of p q n : ℕ) → slice_get events of ≡ Some (Message_received p q n)
      → (entry : Entry T U) × WasSent p n entry (take of events)
      × ((i : ℕ) → of < i → IsUnreleased commands of i
      → ((at : ℕ) → slice_get commands i ≡ Some (Read of at)
      → slice_get replies i ≡ Some (option_map_or (λ value. Cell (Some value))
      (slice_get entry.values at) Skipped))
      × (slice_get commands i ≡ Some (ReadHeader of) → slice_get replies i ≡ Some (Header entry.header))
      × (slice_get commands i ≡ Some (ReadUserHeader of) → slice_get replies i ≡ Some (UserHeader entry.user_header)))
  reads_give_what_was_sent environment defaults m m' s s' commands replies events once w h of p q n e =
      let gives : ReadsSo (started s) commands replies events of p n of =
      reads_from environment defaults (started s) m s [] commands replies events m' s' (start m s w) h
      (λ p q n k f. absurd (none-some _ f)) once of of p q n (omega arith) e in
      (gives.0, ⊎_elim (λ v. absurd v) (λ sent. sent) gives.1, gives.2)
