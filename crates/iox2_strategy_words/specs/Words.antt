-- The words of a publisher's strategies.
use Rattle.std.specs.Prelude.{ℕ, List, codes}
use Rattle.iox2_machine.specs.declared.backpressure.BackpressureStrategy.{BackpressureStrategy}
use Rattle.iox2_machine.specs.declared.backpressure.BackpressureStrategy.TheVariants as strategy
use Rattle.iox2_strategy_words.specs.declared.StrategyWord.{StrategyWord}
use Rattle.iox2_strategy_words.specs.declared.StrategyWord.TheVariants as word

-- The word for a strategy.
abbrev pub word_for : BackpressureStrategy → StrategyWord
word_for strategy.RetryUntilDelivered = word.RetryUntilDelivered
word_for strategy.DiscardData = word.DiscardData

-- The strategy with a word.
abbrev pub strategy_with_word : StrategyWord → BackpressureStrategy
strategy_with_word word.RetryUntilDelivered = strategy.RetryUntilDelivered
strategy_with_word word.DiscardData = strategy.DiscardData

-- What is written for a word.
abbrev pub strategy_name : StrategyWord → List ℕ
strategy_name word.RetryUntilDelivered = codes "RetryUntilDelivered"
strategy_name word.DiscardData = codes "DiscardData"
