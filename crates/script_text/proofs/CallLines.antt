-- Where the words of a line name no call, the line names nothing.
use Rattle.std.proofs.Common.{ℕ, ◌≡◌, ◌∙◌, List, true, false, nat_eq, get_or, refl, sym, ap, subst, arith, inl, inr}
use Rattle.std.proofs.lemmas.Bool.{false≢true}
use Rattle.std.specs.Prelude.{codes, Option, Some, None, IfNone}
use Rattle.iox2_commands.specs.declared.channel_calls.PublisherChannelCall.{PublisherChannelCall}
use Rattle.iox2_commands.specs.declared.channel_calls.PublisherChannelCall.TheVariants as publisher
use Rattle.iox2_commands.specs.declared.channel_calls.SubscriberChannelCall.{SubscriberChannelCall}
use Rattle.iox2_commands.specs.declared.channel_calls.SubscriberChannelCall.TheVariants as subscriber
use Rattle.iox2_commands.specs.declared.command.Command.{Command}
use Rattle.iox2_commands.specs.declared.command.Command.TheVariants as command
use Rattle.iox2_commands.specs.declared.new_publisher.NewPublisher.{NewPublisher}
use Rattle.script_text.specs.Calls.{IsCall, IsCallWith, IsCallWithThree, IsCallWithTwo, IsPublisherCall}
use Rattle.script_text.specs.Calls.{IsSubscriberCall}
use Rattle.script_text.specs.Commands.{IsCommandLine, IsNameAt, IsNumberAt, IsPublisherLine}
use Rattle.script_text.specs.Numbers.{value_of}
use Rattle.script_text.specs.Words.{Words}

-- Where nothing is named so, the line names nothing.
pub line-refused : (words : Words) (Named : Command ℕ ℕ → Type 0) (result : Option (Command ℕ ℕ))
    → ((c : Command ℕ ℕ) → IsCommandLine words c → Named c)
    → IfNone result ((c : Command ℕ ℕ) → ¬ Named c) → IfNone result ((c : Command ℕ ℕ) → ¬ IsCommandLine words c)
line-refused words Named None says refused = λ c names. refused c (says c names)
line-refused words Named (Some c) says refused = tt

-- The line begins with `pub`, and with no word of another first letter.
other-word : (words : Words) → words.word 0 ≡ codes "pub" → (name : List ℕ) → words.word 0 ≡ name
    → nat_eq (get_or name 0 0) 112 ≡ false → ⊥
other-word words is name named apart =
    let first : get_or name 0 0 ≡ 112 = ap (λ (word : List ℕ). get_or word 0 0) (sym named ∙ is) in
    let same : true ≡ false = subst (λ (n : ℕ). nat_eq n 112 ≡ false) first apart in
    false≢true (sym same)

-- So it names no call on a channel.
other-subscriber : (words : Words) → words.word 0 ≡ codes "pub" → (state : ℕ) (call : SubscriberChannelCall)
    → IsSubscriberCall (words.word 0) state call → ⊥
other-subscriber words is state (subscriber.SetState it) names = other-word words is (codes "open") names.0 refl
other-subscriber words is state (subscriber.SomeHasState it) names = other-word words is (codes "state") names.0 refl
other-subscriber words is state (subscriber.Close it) names = other-word words is (codes "shut") names.0 refl
other-subscriber words is state (subscriber.SetDisconnectHint it) names =
    other-word words is (codes "hint") names.0 refl

other-publisher : (words : Words) → words.word 0 ≡ codes "pub" → (state : ℕ) (call : PublisherChannelCall)
    → IsPublisherCall (words.word 0) state call → ⊥
other-publisher words is state (publisher.HasState it) names = other-word words is (codes "state") names.0 refl
other-publisher words is state (publisher.HasDisconnectHint it) names =
    other-word words is (codes "hinted") names.0 refl
other-publisher words is state (publisher.Close it) names = other-word words is (codes "shut") names.0 refl

-- Where a line begins with `pub` and asks for no publisher, it names nothing.
pub publisher-refused : (words : Words) → words.word 0 ≡ codes "pub"
    → ((asked : NewPublisher) → ¬ IsPublisherLine words asked)
    → (c : Command ℕ ℕ) → ¬ IsCommandLine words c
publisher-refused words is refused command.Nothing names = other-word words is (codes "nothing") names.1 refl
publisher-refused words is refused (command.CreatePublisher it) names = refused it names
publisher-refused words is refused (command.CreateSubscriber it b) names =
    other-word words is (codes "sub") names.0 refl
publisher-refused words is refused (command.Retry it b) names = other-word words is (codes "retry") names.0 refl
publisher-refused words is refused (command.Read it b) names = other-word words is (codes "read") names.0 refl
publisher-refused words is refused (command.SubscriberChannel it b call) names =
    other-subscriber words is (value_of (words.word 3)) call names.4
publisher-refused words is refused (command.PublisherChannel it b d call) names =
    other-publisher words is (value_of (words.word 4)) call names.5
publisher-refused words is refused c names = other-word words is _ names.0.1 refl

module _ (words : Words) (of : ℕ) (two : words.count ≡ 2) (name : IsNameAt words 1 of) where
  -- What a line of two words names is their call, where it asks for no subscriber.
  pub line-call : (words.word 0 ≡ codes "sub" → ⊥) → (c : Command ℕ ℕ) → IsCommandLine words c
      → IsCall (words.word 0) of c
  line-call other command.Nothing names = absurd (omega (arith, two, names.0))
  line-call other (command.CreatePublisher it) names =
      absurd (elim names.3 [ inl short ↦ omega (arith, two, short.0) | inr full ↦ omega (arith, two, full.0) ])
  line-call other (command.CreateSubscriber it b) names = absurd (other names.0)
  line-call other (command.LoanSlice it b) names = absurd (omega (arith, two, names.0.0))
  line-call other (command.WriteAll it b) names = absurd (omega (arith, two, names.0.0))
  line-call other (command.WriteHeader it b) names = absurd (omega (arith, two, names.0.0))
  line-call other (command.SendCopy it b) names = absurd (omega (arith, two, names.0.0))
  line-call other (command.WriteCell it b d) names = absurd (omega (arith, two, names.0.0))
  line-call other (command.SetPayload it b d) names = absurd (omega (arith, two, names.0.0))
  line-call other (command.Retry it b) names = elim names.2
      [ inl short ↦ (names.0, names.1.1 ∙ sym name.1, short.1) | inr full ↦ absurd (omega (arith, two, full.0)) ]
  line-call other (command.Read it b) names = elim names.2
      [ inl short ↦ (names.0, names.1.1 ∙ sym name.1, short.1) | inr full ↦ absurd (omega (arith, two, full.0)) ]
  line-call other (command.SendToConnection it b d) names = absurd (omega (arith, two, names.0.0))
  line-call other (command.ConnectionPlace it b) names = absurd (omega (arith, two, names.0.0))
  line-call other (command.SubscriberChannel it b call) names = absurd (omega (arith, two, names.0))
  line-call other (command.PublisherChannel it b d call) names = absurd (omega (arith, two, names.0))
  line-call other c names = (names.0.1, names.1.1 ∙ sym name.1)

module _ (words : Words) (of number : ℕ) (three : words.count ≡ 3) (name : IsNameAt words 1 of)
    (says : IsNumberAt words 2 number) where
  -- What a line of three words names is their call, where it asks for no port and no connection.
  pub line-call_with : (words.word 0 ≡ codes "pub" → ⊥) → (words.word 0 ≡ codes "sub" → ⊥)
      → (words.word 0 ≡ codes "connection" → ⊥) → (c : Command ℕ ℕ) → IsCommandLine words c
      → IsCallWith (words.word 0) of number c
  line-call_with publisher subscriber place command.Nothing names = absurd (omega (arith, three, names.0))
  line-call_with publisher subscriber place (command.CreatePublisher it) names = absurd (publisher names.0)
  line-call_with publisher subscriber place (command.CreateSubscriber it b) names = absurd (subscriber names.0)
  line-call_with publisher subscriber place (command.LoanSlice it b) names =
      (names.0.1, names.1.1 ∙ sym name.1, names.2.1 ∙ sym says.1)
  line-call_with publisher subscriber place (command.WriteAll it b) names =
      (names.0.1, names.1.1 ∙ sym name.1, names.2.1 ∙ sym says.1)
  line-call_with publisher subscriber place (command.WriteHeader it b) names =
      (names.0.1, names.1.1 ∙ sym name.1, names.2.1 ∙ sym says.1)
  line-call_with publisher subscriber place (command.SendCopy it b) names =
      (names.0.1, names.1.1 ∙ sym name.1, names.2.1 ∙ sym says.1)
  line-call_with publisher subscriber place (command.Retry it b) names =
      absurd (elim names.2 [ inl short ↦ omega (arith, three, short.0) | inr full ↦ omega (arith, three, full.0) ])
  line-call_with publisher subscriber place (command.Read it b) names =
      elim names.2 [
        | inl short ↦ absurd (omega (arith, three, short.0))
        | inr full ↦
            (names.0, names.1.1 ∙ sym name.1, full.1.1 ∙ sym says.1)
      ]
  line-call_with publisher subscriber place (command.ConnectionPlace it b) names = absurd (place names.0.1)
  line-call_with publisher subscriber place (command.SubscriberChannel it b call) names =
      absurd (omega (arith, three, names.0))
  line-call_with publisher subscriber place (command.PublisherChannel it b d call) names =
      absurd (omega (arith, three, names.0))
  line-call_with publisher subscriber place c names = absurd (omega (arith, three, names.0.0))

module _ (words : Words) (four : words.count ≡ 4) where
  -- What a line of four words names is their call, where it tries no send again.
  pub line-call_with_two : (words.word 0 ≡ codes "retry" → ⊥) → (c : Command ℕ ℕ) → IsCommandLine words c
      → IsCallWithTwo (words.word 0) (words.word 1) (words.word 2) (words.word 3) c
  line-call_with_two other command.Nothing names = absurd (omega (arith, four, names.0))
  line-call_with_two other (command.CreatePublisher it) names =
      absurd (elim names.3 [ inl short ↦ omega (arith, four, short.0) | inr full ↦ omega (arith, four, full.0) ])
  line-call_with_two other (command.CreateSubscriber it b) names =
      absurd (elim names.2 [ inl short ↦ omega (arith, four, short.0) | inr full ↦ omega (arith, four, full.0) ])
  line-call_with_two other (command.WriteCell it b d) names =
      (names.0.1, (names.1.0, names.1.1, names.2.0, names.2.1, names.3.0, names.3.1))
  line-call_with_two other (command.SetPayload it b d) names =
      (names.0.1, (names.1.0, names.1.1, names.2.0, names.2.1, names.3.0, names.3.1))
  line-call_with_two other (command.Retry it b) names = absurd (other names.0)
  line-call_with_two other (command.Read it b) names =
      absurd (elim names.2 [ inl short ↦ omega (arith, four, short.0) | inr full ↦ omega (arith, four, full.0) ])
  line-call_with_two other (command.SendToConnection it b d) names =
      (names.0.1, (names.1.0, names.1.1, names.2.0, names.2.1, names.3.0, names.3.1))
  line-call_with_two other (command.SubscriberChannel it b call) names =
      (value_of (words.word 3), names.4, (names.1.0, names.1.1, names.2.0, names.2.1, names.3, refl))
  line-call_with_two other (command.PublisherChannel it b d call) names = absurd (omega (arith, four, names.0))
  line-call_with_two other c names = absurd (omega (arith, four, names.0.0))

module _ (words : Words) (five : words.count ≡ 5) where
  -- What a line of five words names is their call.
  pub line-call_with_three : (c : Command ℕ ℕ) → IsCommandLine words c
      → IsCallWithThree (words.word 0) (words.word 1) (words.word 2) (words.word 3) (words.word 4) c
  line-call_with_three command.Nothing names = absurd (omega (arith, five, names.0))
  line-call_with_three (command.CreatePublisher it) names =
      absurd (elim names.3 [ inl short ↦ omega (arith, five, short.0) | inr full ↦ omega (arith, five, full.0) ])
  line-call_with_three (command.CreateSubscriber it b) names =
      absurd (elim names.2 [ inl short ↦ omega (arith, five, short.0) | inr full ↦ omega (arith, five, full.0) ])
  line-call_with_three (command.Retry it b) names =
      absurd (elim names.2 [ inl short ↦ omega (arith, five, short.0) | inr full ↦ omega (arith, five, full.0) ])
  line-call_with_three (command.Read it b) names =
      absurd (elim names.2 [ inl short ↦ omega (arith, five, short.0) | inr full ↦ omega (arith, five, full.0) ])
  line-call_with_three (command.SubscriberChannel it b call) names = absurd (omega (arith, five, names.0))
  line-call_with_three (command.PublisherChannel it b d call) names = (
    value_of (words.word 4),
    names.5,
    (names.1.0, names.1.1, names.2.0, names.2.1, names.3.0, names.3.1),
    names.4,
    refl,
  )
  line-call_with_three c names = absurd (omega (arith, five, names.0.0))
