-- What the lines of a script ask for.
use Rattle.std.specs.Prelude.{ℕ, List, Bool, Option, codes, Some, None, ◌≡◌, ◌⊎◌, ◌+◌, ◌*◌, ◌<◌, true, false}
use Rattle.std.specs.Duration.{as_nanos}
use Rattle.std.specs.declared.time.Duration.{Duration}
use Rattle.std.specs.Str.{IsUtf8}
use Rattle.script_text.specs.Calls.{IsPublisherCall, IsSubscriberCall}
use Rattle.script_text.specs.Numbers.{IsId, IsNumber, value_of, position_of}
use Rattle.script_text.specs.Words.{Words, line_words, words_of}
use Rattle.iox2_machine.specs.declared.service_config.ServiceConfig.{ServiceConfig}
use Rattle.iox2_machine.specs.declared.service_config.TypeVariant.{TypeVariant}
use Rattle.iox2_machine.specs.declared.service_config.TypeVariant.TheVariants.{FixedSize, Dynamic}
use Rattle.iox2_machine.specs.declared.allocation.AllocationStrategy.{AllocationStrategy}
use Rattle.iox2_machine.specs.declared.allocation.AllocationStrategy.TheVariants.{Static, BestFit, PowerOfTwo}
use Rattle.iox2_machine.specs.declared.backpressure.BackpressureStrategy.{BackpressureStrategy}
use Rattle.iox2_machine.specs.declared.backpressure.BackpressureStrategy.TheVariants.{RetryUntilDelivered, DiscardData}
use Rattle.iox2_machine.specs.declared.backpressure.BackpressureAction.{BackpressureAction}
use Rattle.iox2_machine.specs.declared.backpressure.BackpressureAction.TheVariants as action
use Rattle.iox2_machine.specs.declared.degradation.DegradationAction.{DegradationAction}
use Rattle.iox2_machine.specs.declared.degradation.DegradationAction.TheVariants.{Ignore, Warn, DegradeAndFail}
use Rattle.iox2_machine.specs.machine.Delivery.{no_time}
use Rattle.iox2_commands.specs.NewPublishers.{publisher_with}
use Rattle.iox2_commands.specs.declared.new_publisher.NewPublisher.{NewPublisher}
use Rattle.iox2_commands.specs.declared.command.Command.{Command}
use Rattle.iox2_commands.specs.declared.command.Command.TheVariants as command

-- The settings that a domain line names.
abbrev pub script_config : (variant : TypeVariant) (publishers subscribers buffer borrowed history expired channels : ℕ)
    (overflow : Bool) → ServiceConfig
script_config variant publishers subscribers buffer borrowed history expired channels overflow = record {
  service_id = 1;
  node_id = 1;
  variant = variant;
  units_per_element = 1;
  lists_cells = true;
  max_publishers = publishers;
  max_subscribers = subscribers;
  subscriber_max_buffer_size = buffer;
  subscriber_max_borrowed_samples = borrowed;
  history_size = history;
  number_of_channels = channels;
  enable_safe_overflow = overflow;
  subscriber_expired_connection_buffer = expired;
  publisher_max_loaned_samples = 1;
  backpressure_strategy = DiscardData;
  publisher_allocation_strategy = Static;
}

-- There are that many words, and the first is this one.
abbrev pub HasForm : Words → List ℕ → ℕ → Type 0
HasForm words name count = (words.count ≡ count) × (words.word 0 ≡ name)

-- The word at this position is the number.
abbrev pub IsNumberAt : Words → ℕ → ℕ → Type 0
IsNumberAt words i number = IsNumber (words.word i) × (number ≡ value_of (words.word i))

-- The word at this position is the id of a port.
abbrev pub IsIdAt : Words → ℕ → ℕ → Type 0
IsIdAt words i id = IsId (words.word i) × (id ≡ value_of (words.word i))

-- The word at this position is the number of a command, counted from 1, whose position is counted from 0.
abbrev pub IsNameAt : Words → ℕ → ℕ → Type 0
IsNameAt words i of = IsNumber (words.word i) × (of ≡ position_of (value_of (words.word i)))

-- `overflow`: a full buffer overwrites what it has. `keep`: it keeps it.
abbrev pub IsMode : List ℕ → (overflow : Bool) → Type 0
IsMode word true = word ≡ codes "overflow"
IsMode word false = word ≡ codes "keep"

-- `retry`: a send waits for a full receiver. `discard`: it passes it over.
abbrev pub IsStrategy : List ℕ → BackpressureStrategy → Type 0
IsStrategy word RetryUntilDelivered = word ≡ codes "retry"
IsStrategy word DiscardData = word ≡ codes "discard"

-- `domain`: messages are single values. `slices`: they are slices.
abbrev pub IsKind : List ℕ → TypeVariant → Type 0
IsKind word FixedSize = word ≡ codes "domain"
IsKind word Dynamic = word ≡ codes "slices"

-- `static`, `bestfit` or `poweroftwo`: how a publisher's memory grows.
abbrev pub IsAllocation : List ℕ → AllocationStrategy → Type 0
IsAllocation word Static = word ≡ codes "static"
IsAllocation word BestFit = word ≡ codes "bestfit"
IsAllocation word PowerOfTwo = word ≡ codes "poweroftwo"

-- `ignore`, `warn` or `fail`: the answer to a refused connection.
abbrev pub IsDegradation : List ℕ → DegradationAction → Type 0
IsDegradation word Ignore = word ≡ codes "ignore"
IsDegradation word Warn = word ≡ codes "warn"
IsDegradation word DegradeAndFail = word ≡ codes "fail"

-- `follow`, `retry`, `discard` or `fail`: the answer of a handler of full buffers. `none`: there is no handler.
abbrev pub IsHandler : List ℕ → Option BackpressureAction → Type 0
IsHandler word None = word ≡ codes "none"
IsHandler word (Some action.FollowBackpressureyStrategy) = word ≡ codes "follow"
IsHandler word (Some action.Retry) = word ≡ codes "retry"
IsHandler word (Some action.DiscardData) = word ≡ codes "discard"
IsHandler word (Some action.DiscardDataAndFail) = word ≡ codes "fail"

-- A number, or `most` where none is named.
abbrev pub IsSizeOrMost : List ℕ → Option ℕ → Type 0
IsSizeOrMost word None = word ≡ codes "most"
IsSizeOrMost word (Some size) = IsNumber word × (size ≡ value_of word)

-- A connection has one channel where a domain line has eight words. `.. channels C` behind these: it has C channels.
abbrev pub SaysChannels : Words → (channels : ℕ) → Type 0
SaysChannels words channels =
    (words.count ≡ 8) × (channels ≡ 1) ⊎ (words.count ≡ 10) × (words.word 8 ≡ codes "channels")
    × IsNumberAt words 9 channels

-- `domain P S B R H E overflow` or `.. keep` names the settings with P, S, B, R, H and E, and so does `slices ..`; the
-- number of channels may follow.
pub record IsDomainLine (words : Words) (config : ServiceConfig) : Type 0 where
  pub channels : ℕ
  pub says : SaysChannels words channels
  pub variant : TypeVariant
  pub kind : IsKind (words.word 0) variant
  pub publishers : IsNumber (words.word 1)
  pub subscribers : IsNumber (words.word 2)
  pub buffer : IsNumber (words.word 3)
  pub borrowed : IsNumber (words.word 4)
  pub history : IsNumber (words.word 5)
  pub expired : IsNumber (words.word 6)
  pub overflow : Bool
  pub mode : IsMode (words.word 7) overflow
  pub settings : config ≡ script_config variant (value_of (words.word 1)) (value_of (words.word 2))
      (value_of (words.word 3)) (value_of (words.word 4)) (value_of (words.word 5))
      (value_of (words.word 6)) channels overflow

-- `pub L retry` or `.. discard`: a publisher with L loans and this strategy, whose memory is static. With five words
-- more: how its memory grows, the length of a slice that its first slots hold, the number of its slots, and its
-- handlers' answers.
abbrev pub IsPublisherLine : Words → NewPublisher → Type 0
IsPublisherLine words asked =
    (words.word 0 ≡ codes "pub") × IsNumberAt words 1 asked.loans × IsStrategy (words.word 2) asked.strategy
    × ((words.count ≡ 3) × (asked ≡ publisher_with asked.loans asked.strategy)
    ⊎ (words.count ≡ 8) × IsAllocation (words.word 3) asked.allocation × IsNumberAt words 4 asked.initial_max_slice_len
    × IsSizeOrMost (words.word 5) asked.override_slots × IsDegradation (words.word 6) asked.degradation
    × IsHandler (words.word 7) asked.backpressure)

-- `sub B`: a subscriber with this buffer. With one word more: its handler's answer.
abbrev pub IsSubscriberLine : Words → Option ℕ → DegradationAction → Type 0
IsSubscriberLine words buffer degradation =
    (words.word 0 ≡ codes "sub") × IsSizeOrMost (words.word 1) buffer
    × ((words.count ≡ 2) × (degradation ≡ Warn) ⊎ (words.count ≡ 3) × IsDegradation (words.word 2) degradation)

-- `retry N`: the blocked send is tried again at once. `retry N S D`: after S seconds and D billionths of one.
abbrev pub IsRetryLine : Words → (of : ℕ) → Duration → Type 0
IsRetryLine words of elapsed =
    (words.word 0 ≡ codes "retry") × IsNameAt words 1 of
    × ((words.count ≡ 2) × (elapsed ≡ no_time)
    ⊎ (words.count ≡ 4) × IsNumber (words.word 2) × IsNumber (words.word 3) × (value_of (words.word 3) < 1000000000)
    × (as_nanos elapsed ≡ value_of (words.word 2) * 1000000000 + value_of (words.word 3)))

-- `read N`: the first value of a sample or loan. `read N A`: the one at A, counted from 0.
abbrev pub IsReadLine : Words → (of at : ℕ) → Type 0
IsReadLine words of at =
    (words.word 0 ≡ codes "read") × IsNameAt words 1 of
    × ((words.count ≡ 2) × (at ≡ 0) ⊎ (words.count ≡ 3) × IsNumberAt words 2 at)

-- What the words of a line after the first ask for.
abbrev pub IsCommandLine : Words → Command ℕ ℕ → Type 0
-- `nothing` does nothing.
IsCommandLine words command.Nothing = HasForm words (codes "nothing") 1
IsCommandLine words (command.CreatePublisher asked) = IsPublisherLine words asked
IsCommandLine words (command.CreateSubscriber buffer degradation) = IsSubscriberLine words buffer degradation
-- `loan N`, `default N`, `slice N L`: a loan of publisher N, unwritten, of a default value, or of L elements.
IsCommandLine words (command.LoanUninit of) = HasForm words (codes "loan") 2 × IsNameAt words 1 of
IsCommandLine words (command.Loan of) = HasForm words (codes "default") 2 × IsNameAt words 1 of
IsCommandLine words (command.LoanSlice of len) =
    HasForm words (codes "slice") 3 × IsNameAt words 1 of × IsNumberAt words 2 len
-- `write N V`, `cell N A V`, `set N A V`, `init N`, `user N V`: each cell of a loan is written, one cell of an
-- unwritten loan or one value of a written one; the loan counts as written; its user header is written.
IsCommandLine words (command.WriteAll of value) =
    HasForm words (codes "write") 3 × IsNameAt words 1 of × IsNumberAt words 2 value
IsCommandLine words (command.WriteCell of at value) =
    HasForm words (codes "cell") 4 × IsNameAt words 1 of × IsNumberAt words 2 at × IsNumberAt words 3 value
IsCommandLine words (command.SetPayload of at value) =
    HasForm words (codes "set") 4 × IsNameAt words 1 of × IsNumberAt words 2 at × IsNumberAt words 3 value
IsCommandLine words (command.AssumeInit of) = HasForm words (codes "init") 2 × IsNameAt words 1 of
IsCommandLine words (command.WriteHeader of value) =
    HasForm words (codes "user") 3 × IsNameAt words 1 of × IsNumberAt words 2 value
-- `send N`, `copy N V`, `discard N`, `giveup N`: calls of a loan, a publisher or a blocked send.
IsCommandLine words (command.Send of) = HasForm words (codes "send") 2 × IsNameAt words 1 of
IsCommandLine words (command.SendCopy of value) =
    HasForm words (codes "copy") 3 × IsNameAt words 1 of × IsNumberAt words 2 value
IsCommandLine words (command.Discard of) = HasForm words (codes "discard") 2 × IsNameAt words 1 of
IsCommandLine words (command.Retry of elapsed) = IsRetryLine words of elapsed
IsCommandLine words (command.GiveUp of) = HasForm words (codes "giveup") 2 × IsNameAt words 1 of
-- `update N`, `recv N`, `has N`, `close N`: calls of a port.
IsCommandLine words (command.Update of) = HasForm words (codes "update") 2 × IsNameAt words 1 of
IsCommandLine words (command.Receive of) = HasForm words (codes "recv") 2 × IsNameAt words 1 of
IsCommandLine words (command.HasSamples of) = HasForm words (codes "has") 2 × IsNameAt words 1 of
IsCommandLine words (command.Close of) = HasForm words (codes "close") 2 × IsNameAt words 1 of
-- `deliver N C K`: loan N is sent into channel C of its publisher's connection K alone. `connection N Q`: the place of
-- publisher N's connection to the subscriber with the id Q.
IsCommandLine words (command.SendToConnection of channel connection) =
    HasForm words (codes "deliver") 4 × IsNameAt words 1 of × IsNumberAt words 2 channel × IsNumberAt words 3 connection
IsCommandLine words (command.ConnectionPlace of receiver) =
    HasForm words (codes "connection") 3 × IsNameAt words 1 of × IsIdAt words 2 receiver
-- Calls on a channel: `.. N C V` of all connections of subscriber N, and `.. N C K V` of publisher N's connection K.
IsCommandLine words (command.SubscriberChannel of channel call) =
    (words.count ≡ 4) × IsNameAt words 1 of × IsNumberAt words 2 channel × IsNumber (words.word 3)
    × IsSubscriberCall (words.word 0) (value_of (words.word 3)) call
IsCommandLine words (command.PublisherChannel of channel connection call) =
    (words.count ≡ 5) × IsNameAt words 1 of × IsNumberAt words 2 channel × IsNumberAt words 3 connection
    × IsNumber (words.word 4)
    × IsPublisherCall (words.word 0) (value_of (words.word 4)) call
-- `read ..`, `header N`, `user N`, `release N`: calls of a sample; all except the last of a loan too.
IsCommandLine words (command.Read of at) = IsReadLine words of at
IsCommandLine words (command.ReadHeader of) = HasForm words (codes "header") 2 × IsNameAt words 1 of
IsCommandLine words (command.ReadUserHeader of) = HasForm words (codes "user") 2 × IsNameAt words 1 of
IsCommandLine words (command.Release of) = HasForm words (codes "release") 2 × IsNameAt words 1 of

-- A line is UTF-8, and its words name these settings.
abbrev pub NamesDomain : List ℕ → ServiceConfig → Type 0
NamesDomain line config = IsUtf8 line × IsDomainLine (words_of (line_words line)) config

-- A line is UTF-8, and its words name this command.
abbrev pub NamesCommand : List ℕ → Command ℕ ℕ → Type 0
NamesCommand line c = IsUtf8 line × IsCommandLine (words_of (line_words line)) c
