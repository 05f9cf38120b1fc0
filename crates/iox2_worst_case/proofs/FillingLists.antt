-- The list that fills every slot, command after command: what is there with what is still to come.
use Rattle.std.proofs.Common.{◌≡◌, ℕ, suc, ◌+◌, ◌-◌, ◌*◌, ◌<◌, ◌≤◌, List, [], ◌∷◌, ◌++◌, replicate, sym, ap, ◌∙◌, arith}
use Rattle.std.proofs.Math.Nat.{mul-le-mul_right, suc-mul}
use Rattle.std.proofs.lemmas.List.{append_assoc}
use Rattle.iox2_machine.specs.declared.service_config.ServiceConfig.{ServiceConfig}
use Rattle.iox2_machine.specs.declared.service_config.TypeVariant.{TypeVariant}
use Rattle.iox2_worst_case.specs.FillingCommands.{loan_command, sends, rounds, subscriber_filled, subscribers_filled}
use Rattle.iox2_worst_case.specs.FillingCommands.{filling_length}
use Rattle.iox2_commands.specs.declared.command.Command.{Command}
use Rattle.iox2_commands.specs.declared.command.Command.TheVariants.{WriteAll, Send, Receive}

-- one less is to come
one_less : (i count : ℕ) → i < count → count - i ≡ suc (count - (i + 1))
one_less i count h = omega arith

-- once more as many
pub one_more_time : (start now after i each : ℕ) → now ≡ start + i * each → after ≡ now + each
    → after ≡ start + (i + 1) * each
one_more_time start now after i each before more = grind arith

-- before the last one there is room for one more
pub room_for_one_more : (start now i count each room : ℕ) → now ≡ start + i * each → i < count
    → start + count * each ≤ room → now + each ≤ room
room_for_one_more start now i count each room done below fits =
    let more : suc i * each ≤ count * each = mul-le-mul_right each (omega (arith, below)) in
    let next : suc i * each ≡ i * each + each = suc-mul i each in
    omega (arith, more, next)

module _ {T U : Type 0} where
  -- of the sends that are to come, one is done
  pub sends_more : (done : List (Command T U)) (variant : TypeVariant) (value : T) (position i count : ℕ) → i < count
      → (done ++ loan_command variant ∷ WriteAll position value ∷ Send position ∷ []) ++ sends variant value
      (position + 3) (count - (i + 1))
      ≡ done ++ sends variant value position (count - i)
  sends_more done variant value position i count h =
      append_assoc done (loan_command variant ∷ WriteAll position value ∷ Send position ∷ [])
      (sends variant value (position + 3) (count - (i + 1)))
      ∙ ap (λ (n : ℕ). done ++ sends variant value position n) (sym (one_less i count h))

  -- of the rounds that are to come, one is done
  pub rounds_more : (done : List (Command T U)) (variant : TypeVariant) (value : T) (subscriber position i count : ℕ)
      → i < count
      → ((done ++ loan_command variant ∷ WriteAll position value ∷ Send position ∷ []) ++ Receive subscriber ∷ [])
      ++ rounds variant value subscriber (position + 4) (count - (i + 1))
      ≡ done ++ rounds variant value subscriber position (count - i)
  rounds_more done variant value subscriber position i count h =
      let rest : List (Command T U) = rounds variant value subscriber (position + 4) (count - (i + 1)) in
      append_assoc (done ++ loan_command variant ∷ WriteAll position value ∷ Send position ∷ [])
      (Receive subscriber ∷ []) rest
      ∙ append_assoc done (loan_command variant ∷ WriteAll position value ∷ Send position ∷ [])
      (Receive subscriber ∷ rest)
      ∙ ap (λ (n : ℕ). done ++ rounds variant value subscriber position n) (sym (one_less i count h))

  -- of the subscribers that are to come, one is filled
  pub subscribers_more : (done : List (Command T U)) (c : ServiceConfig) (value : T) (position i count : ℕ) → i < count
      → (done ++ subscriber_filled c value position) ++ subscribers_filled c value (position + filling_length c)
      (count - (i + 1))
      ≡ done ++ subscribers_filled c value position (count - i)
  subscribers_more done c value position i count h =
      append_assoc done (subscriber_filled c value position)
      (subscribers_filled c value (position + filling_length c) (count - (i + 1)))
      ∙ ap (λ (n : ℕ). done ++ subscribers_filled c value position n) (sym (one_less i count h))

  -- of the commands of one kind that are to come, one is done
  pub replicate_more : (done : List (Command T U)) (command : Command T U) (i count : ℕ) → i < count
      → (done ++ command ∷ []) ++ replicate (count - (i + 1)) command ≡ done ++ replicate (count - i) command
  replicate_more done command i count h =
      append_assoc done (command ∷ []) (replicate (count - (i + 1)) command)
      ∙ ap (λ (n : ℕ). done ++ replicate n command) (sym (one_less i count h))
