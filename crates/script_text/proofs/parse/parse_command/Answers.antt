use Rattle.std.proofs.Common.{◌≡◌, arith, rules}
use Rattle.std.specs.Prelude.{codes}
use Rattle.script_text.specs.Calls.{IsCall, IsCallWith, IsCallWithThree, IsCallWithTwo}
use Rattle.script_text.specs.Commands.{IsNameAt, IsNumberAt}
use Rattle.script_text.specs.Words.{words_in}
use Rattle.script_text.proofs.CallLines.{line-refused, line-call, line-call_with, line-call_with_three}
use Rattle.script_text.proofs.CallLines.{line-call_with_two, publisher-refused}
use Rattle.script_text.proofs.parse.parse_command.Goals as goal

pub returns-in_ok-parse_name-in-len2-clause-refuses : goal.returns-in_ok-parse_name-in-len2-clause-refuses
returns-in_ok-parse_name-in-len2-clause-refuses c =
    let words = words_in c.args.words.now in
    let two : words.count ≡ 2 = omega arith in
    let name : IsNameAt words 1 c.in_ok-parse_name-in-len2.field-0 = search rules in
    let other : words.word 0 ≡ codes "sub" → ⊥ = search rules in
    line-refused words (IsCall (words.word 0) c.in_ok-parse_name-in-len2.field-0) c.parse_call.result
    (line-call words c.in_ok-parse_name-in-len2.field-0 two name other) (search rules)

pub returns-in_ok-parse_number-in-len3-clause-refuses : goal.returns-in_ok-parse_number-in-len3-clause-refuses
returns-in_ok-parse_number-in-len3-clause-refuses c =
    let words = words_in c.args.words.now in
    let three : words.count ≡ 3 = omega arith in
    let name : IsNameAt words 1 c.in_ok-of-in-len3.of = search rules in
    let number : IsNumberAt words 2 c.in_ok-parse_number-in-len3.field-0 = search rules in
    let publisher : words.word 0 ≡ codes "pub" → ⊥ = search rules in
    let subscriber : words.word 0 ≡ codes "sub" → ⊥ = search rules in
    let place : words.word 0 ≡ codes "connection" → ⊥ = search rules in
    line-refused words (IsCallWith (words.word 0) c.in_ok-of-in-len3.of c.in_ok-parse_number-in-len3.field-0)
    c.parse_call_with.result (line-call_with words c.in_ok-of-in-len3.of c.in_ok-parse_number-in-len3.field-0 three name
    number publisher subscriber place) (search rules)

pub returns-in-len4-clause-refuses : goal.returns-in-len4-clause-refuses
returns-in-len4-clause-refuses c =
    let words = words_in c.args.words.now in
    let four : words.count ≡ 4 = omega arith in
    let other : words.word 0 ≡ codes "retry" → ⊥ = search rules in
    line-refused words (IsCallWithTwo (words.word 0) (words.word 1) (words.word 2) (words.word 3))
    c.parse_call_with_two.result (line-call_with_two words four other) (search rules)

pub returns-in-len5-clause-refuses : goal.returns-in-len5-clause-refuses
returns-in-len5-clause-refuses c =
    let words = words_in c.args.words.now in
    let five : words.count ≡ 5 = omega arith in
    line-refused words (IsCallWithThree (words.word 0) (words.word 1) (words.word 2) (words.word 3) (words.word 4))
    c.parse_call_with_three.result (line-call_with_three words five) (search rules)

pub returns-in_err-parse_publisher-in-pub-clause-refuses : goal.returns-in_err-parse_publisher-in-pub-clause-refuses
returns-in_err-parse_publisher-in-pub-clause-refuses c =
    let words = words_in c.args.words.now in
    let is : words.word 0 ≡ codes "pub" = search rules in
    rw c.from_residual-in_err-parse_publisher-in-pub.ensures
    (publisher-refused words is c.in_err-parse_publisher-in-pub.ensures.refuses)

pub returns-in_err-parse_publisher-in-pub-2-clause-refuses : goal.returns-in_err-parse_publisher-in-pub-2-clause-refuses
returns-in_err-parse_publisher-in-pub-2-clause-refuses c =
    let words = words_in c.args.words.now in
    let is : words.word 0 ≡ codes "pub" = search rules in
    rw c.from_residual-in_err-parse_publisher-in-pub-2.ensures
    (publisher-refused words is c.in_err-parse_publisher-in-pub-2.ensures.refuses)
