-- A recorded domain is called once more.
use Rattle.std.proofs.Common.{rules, ◌≡◌, ◌<◌, vec_capacity, vec_len, true, List, [], ◌∷◌, ◌++◌, sym, subst, append-nil}
use Rattle.std.proofs.Common.{append_assoc}
use Rattle.iox2_machine.specs.machine.Environments.{fixed_handlers}
use Rattle.iox2_machine.specs.machine.State.{fresh, no_messages}
use Rattle.iox2_machine.specs.declared.service_config.ServiceConfig.{ServiceConfig}
use Rattle.iox2_domain.specs.Kept.{Kept as Domain}
use Rattle.iox2_domain.specs.Shows.{Shows}
use Rattle.iox2_commands.specs.Runs.{Defaults}
use Rattle.iox2_commands.specs.declared.command.Command.{Command}
use Rattle.iox2_commands.specs.declared.reply.Reply.{Reply}
use Rattle.iox2_runs.specs.Carries.{Carries}
use Rattle.iox2_runs.specs.declared.runs.made.Made.{Made}
use Rattle.iox2_runs.proofs.RunLoop.{has_run_none, has_run_more, is_run}
use Rattle.iox2_recorded.specs.Recorded.{HasRun, WasRun, has_room_for_call}
use Rattle.iox2_recorded.specs.declared.recorded.Recorded.{Recorded}

-- Where there is room nothing was missed.
pub room-none : {T U F G : Type 0} (r : Recorded T U F G) → has_room_for_call r ≡ true → r.missed ≡ 0
room-none r room = search rules

-- and the commands leave room for one more
pub room-left : {T U F G : Type 0} (r : Recorded T U F G) → has_room_for_call r ≡ true
    → vec_len r.commands < vec_capacity r.commands
room-left r room = search rules

module _ {T U F G : Type 0} (defaults : Defaults T U) where
  -- what ran from a new domain is a run of it
  pub was-run : (c : ServiceConfig) (start now : Domain T U F G) (commands : List (Command T U))
      (replies : List (Reply T U)) (table : List Made)
      → Shows start no_messages (fresh c) → HasRun defaults start now commands replies table
      → WasRun defaults c commands replies
  was-run c start now commands replies table new ran =
      let (events, m', s', shows, run, faithful, grants) =
      is_run {T = T} {U = U} fixed_handlers defaults start now commands replies table ran no_messages (fresh c) new in
      (events, m', s', run)

  -- nothing ran on a new domain
  pub ran-none : (start : Domain T U F G) → HasRun defaults start start [] [] []
  ran-none start = has_run_none {T = T} {U = U} fixed_handlers defaults start

  -- one command more, behind what is kept
  pub ran-kept : (start mid new : Domain T U F G) (commands : List (Command T U)) (replies : List (Reply T U))
      (table table' : List Made) (command : Command T U) (reply : Reply T U) (made : Made)
      → HasRun defaults start mid commands replies table
      → Carries fixed_handlers defaults mid new table command reply table' made
      → (default_value : T) (default_header : U) → defaults.IsDefaultValue default_value
      → defaults.IsDefaultHeader default_header
      → HasRun defaults start new (commands ++ command ∷ []) (replies ++ reply ∷ []) (table' ++ made ∷ [])
  ran-kept start mid new commands replies table table' command reply made ran carries value header is_value is_header =
      has_run_more {T = T} {U = U} fixed_handlers defaults start mid new commands replies table table' command reply
      made ran carries value header is_value is_header

  -- one command more, behind what is kept and what was missed
  pub ran-missed : (start mid new : Domain T U F G) (commands missed : List (Command T U))
      (replies missed_replies : List (Reply T U)) (table table' : List Made) (command : Command T U) (reply : Reply T U)
      (made : Made)
      → HasRun defaults start mid (commands ++ missed) (replies ++ missed_replies) table
      → Carries fixed_handlers defaults mid new table command reply table' made
      → (default_value : T) (default_header : U) → defaults.IsDefaultValue default_value
      → defaults.IsDefaultHeader default_header
      → HasRun defaults start new (commands ++ (missed ++ command ∷ [])) (replies ++ (missed_replies ++ reply ∷ []))
      (table' ++ made ∷ [])
  ran-missed start mid new commands missed replies missed_replies table table' command reply made ran carries value
      header is_value is_header =
      subst (λ (cs : List (Command T U)). HasRun defaults start new cs (replies ++ (missed_replies ++ reply ∷ []))
      (table' ++ made ∷ [])) (append_assoc commands missed (command ∷ []))
      (subst (λ (rs : List (Reply T U)). HasRun defaults start new ((commands ++ missed) ++ command ∷ []) rs
      (table' ++ made ∷ [])) (append_assoc replies missed_replies (reply ∷ []))
      (ran-kept start mid new (commands ++ missed)
      (replies ++ missed_replies) table table' command reply made ran carries value header is_value is_header))

  -- where nothing was missed, what is kept is all
  pub ran-whole : (start now : Domain T U F G) (commands missed : List (Command T U))
      (replies missed_replies : List (Reply T U)) (table : List Made)
      → HasRun defaults start now (commands ++ missed) (replies ++ missed_replies) table → missed ≡ []
      → missed_replies ≡ []
      → HasRun defaults start now commands replies table
  ran-whole start now commands missed replies missed_replies table ran none none_replied =
      subst (λ (cs : List (Command T U)). HasRun defaults start now cs replies table) (append-nil commands)
      (subst (λ (rs : List (Reply T U)). HasRun defaults start now (commands ++ []) rs table) (append-nil replies)
      (subst (λ (ms : List (Reply T U)). HasRun defaults start now (commands ++ []) (replies ++ ms) table) none_replied
      (subst (λ (ms : List (Command T U)). HasRun defaults start now (commands ++ ms) (replies ++ missed_replies) table)
      none ran)))

  -- and the other way round
  pub ran-all : (start now : Domain T U F G) (commands : List (Command T U)) (replies : List (Reply T U))
      (table : List Made)
      → HasRun defaults start now commands replies table
      → HasRun defaults start now (commands ++ []) (replies ++ []) table
  ran-all start now commands replies table ran =
      subst (λ (cs : List (Command T U)). HasRun defaults start now cs (replies ++ []) table)
      (sym (append-nil commands))
      (subst (λ (rs : List (Reply T U)). HasRun defaults start now commands rs table) (sym (append-nil replies)) ran)
