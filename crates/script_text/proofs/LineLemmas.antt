-- Lemmas on what a line names.
use Rattle.std.proofs.Common.{ℕ, ◌≡◌, ◌<◌, List, [], length, Bor, sym, ap, subst, ◌∙◌, arith, inl, inr}
use Rattle.std.specs.Prelude.{Option, Some, None, IfSome, IfNone}
use Rattle.std.specs.Str.{IsUtf8}
use Rattle.std.proofs.Math.ListN.{get_or-map}
use Rattle.std.proofs.lemmas.List.{length-map}
use Rattle.iox2_machine.specs.declared.service_config.ServiceConfig.{ServiceConfig}
use Rattle.iox2_commands.specs.declared.command.Command.{Command}
use Rattle.iox2_commands.specs.declared.command.Command.TheVariants as command
use Rattle.script_text.specs.Commands.{IsCommandLine, IsDomainLine, NamesCommand, NamesDomain}
use Rattle.script_text.specs.Words.{Words, line_words, texts, words_in, words_of}

-- The words that code holds are those of its list of texts.
pub words_in-texts : (words : List (Bor (List ℕ))) → words_in words ≡ words_of (texts words)
words_in-texts words =
    λ k. record {
      count = sym (length-map words (λ (x : Bor (List ℕ)). x.now)) k;
      word = λ i. sym (get_or-map (λ (x : Bor (List ℕ)). x.now) words i (record { ref_ptr = (0, 0); now = [] })) k;
    }

-- The words that code holds are those of the line, where its texts are.
pub words_in-line : (line : List ℕ) (words : List (Bor (List ℕ))) → texts words ≡ line_words line
    → words_in words ≡ words_of (line_words line)
words_in-line line words same = words_in-texts words ∙ ap words_of same

-- What the words name, the line names.
pub domain-named : (line : List ℕ) (words : List (Bor (List ℕ))) (result : Option ServiceConfig) → IsUtf8 line
    → texts words ≡ line_words line
    → IfSome result (IsDomainLine (words_in words)) → IfSome result (NamesDomain line)
domain-named line words None text same names = tt
domain-named line words (Some config) text same names =
    (text, subst (λ z. IsDomainLine z config) (words_in-line line words same) names)

-- Where the words name nothing, the line names nothing.
pub domain-refused : (line : List ℕ) (words : List (Bor (List ℕ))) (result : Option ServiceConfig)
    → texts words ≡ line_words line
    → IfNone result ((config : ServiceConfig) → ¬ IsDomainLine (words_in words) config)
    → IfNone result ((config : ServiceConfig) → ¬ NamesDomain line config)
domain-refused line words None same refused =
    λ config named. refused config (subst (λ z. IsDomainLine z config) (sym (words_in-line line words same)) named.1)
domain-refused line words (Some found) same refused = tt

-- A text with more than 10 words names no settings, nor does what isn't text.
pub domain-long : (line : List ℕ) → (IsUtf8 line → 10 < length (line_words line)) → (config : ServiceConfig)
    → ¬ NamesDomain line config
domain-long line long config named = elim (named.1).says
    [ inl short ↦ omega (arith, long named.0, short.0) | inr full ↦ omega (arith, long named.0, full.0) ]

-- What the words name, the line names.
pub command-named : (line : List ℕ) (words : List (Bor (List ℕ))) (result : Option (Command ℕ ℕ)) → IsUtf8 line
    → texts words ≡ line_words line
    → IfSome result (IsCommandLine (words_in words)) → IfSome result (NamesCommand line)
command-named line words None text same names = tt
command-named line words (Some c) text same names =
    (text, subst (λ z. IsCommandLine z c) (words_in-line line words same) names)

-- Where the words name nothing, the line names nothing.
pub command-refused : (line : List ℕ) (words : List (Bor (List ℕ))) (result : Option (Command ℕ ℕ))
    → texts words ≡ line_words line
    → IfNone result ((c : Command ℕ ℕ) → ¬ IsCommandLine (words_in words) c)
    → IfNone result ((c : Command ℕ ℕ) → ¬ NamesCommand line c)
command-refused line words None same refused =
    λ c named. refused c (subst (λ z. IsCommandLine z c) (sym (words_in-line line words same)) named.1)
command-refused line words (Some found) same refused = tt

-- More than 10 words name no command.
pub words-long : (words : Words) → 10 < words.count → (c : Command ℕ ℕ) → ¬ IsCommandLine words c
words-long words long command.Nothing names = omega (arith, long, names.0)
words-long words long (command.CreatePublisher a) names =
    elim names.3 [ inl short ↦ omega (arith, long, short.0) | inr full ↦ omega (arith, long, full.0) ]
words-long words long (command.CreateSubscriber a b) names =
    elim names.2 [ inl short ↦ omega (arith, long, short.0) | inr full ↦ omega (arith, long, full.0) ]
words-long words long (command.Retry a b) names =
    elim names.2 [ inl short ↦ omega (arith, long, short.0) | inr full ↦ omega (arith, long, full.0) ]
words-long words long (command.Read a b) names =
    elim names.2 [ inl short ↦ omega (arith, long, short.0) | inr full ↦ omega (arith, long, full.0) ]
words-long words long (command.SubscriberChannel a b d) names = omega (arith, long, names.0)
words-long words long (command.PublisherChannel a b d e) names = omega (arith, long, names.0)
words-long words long c names = omega (arith, long, names.0.0)

-- A text with more than 10 words names no command, nor does what isn't text.
pub command-long : (line : List ℕ) → (IsUtf8 line → 10 < length (line_words line)) → (c : Command ℕ ℕ)
    → ¬ NamesCommand line c
command-long line long c named = words-long (words_of (line_words line)) (long named.0) c named.1
