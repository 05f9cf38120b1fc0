-- What a command does with what its handle names, and what it comes to in a run's table.
use Rattle.std.proofs.Common.{◌≡◌, ℕ, false, List, refl, sym, ap, subst, ◌∙◌}
use Rattle.std.specs.Prelude.{slice_index_or, slice_set}
use Rattle.std.specs.declared.vec.Vec.{Vec}
use Rattle.iox2_machine.specs.machine.Records.{Environment}
use Rattle.iox2_machine.specs.machine.State.{State, Messages}
use Rattle.iox2_domain.specs.Kept.{Kept as Domain}
use Rattle.iox2_domain.specs.Shows.{Shows}
use Rattle.iox2_pubsub.specs.Live.{IsNewIn, Stays, StaysBut}
use Rattle.iox2_pubsub.specs.declared.publisher.Publisher.{Publisher as PublisherHandle}
use Rattle.iox2_commands.specs.Runs.{Defaults}
use Rattle.iox2_commands.specs.declared.command.Command.{Command}
use Rattle.iox2_commands.specs.declared.reply.Reply.{Reply}
use Rattle.iox2_commands.specs.declared.reply.Reply.TheVariants.{Skipped}
use Rattle.iox2_runs.specs.Carries.{Carries, IsLiveTable, entry_for}
use Rattle.iox2_runs.specs.CarriesOut.{CarriesOut}
use Rattle.iox2_runs.specs.Leaves.{LeavesTable, item_of}
use Rattle.iox2_runs.specs.Placed.{IsPlacedMade}
use Rattle.iox2_runs.specs.Tables.{IsUnblockedPort}
use Rattle.iox2_runs.specs.Turns.{IsLiveEntry, IsUnready, Turns, Makes, IsTakenFromTable, IsPutBack}
use Rattle.iox2_runs.specs.declared.runs.made.Made.{Made}
use Rattle.iox2_runs.specs.declared.runs.made.Made.TheVariants.{Nothing, Publisher as MadePublisher}
use Rattle.iox2_runs.specs.declared.runs.made.Made.TheVariants.{Subscriber as MadeSubscriber, Unwritten, Written}
use Rattle.iox2_runs.specs.declared.runs.made.Made.TheVariants.{Blocked, Sample as MadeSample}
use Rattle.iox2_runs.proofs.LeavingSteps.{leaves-all, leaves-making, leaves-spending}
use Rattle.iox2_runs.proofs.SameRooms.{same-room-twice}
use Rattle.iox2_runs.proofs.TableEntries.{set_again, set_same}
use Rattle.iox2_runs.proofs.TableLooks.{is_publisher_entry}

-- what stands there is set
stands-there : (table : List Made) (of : ℕ) (held : Made) → slice_index_or table of Nothing ≡ held
    → slice_set table of held ≡ table
stands-there table of held at = ap (λ (h : Made). slice_set table of h) (sym at) ∙ set_same table of

module _ {T U F G : Type 0} (environment : Environment) (defaults : Defaults T U) (old new : Domain T U F G)
    (held : Made) (command : ℕ → Command T U) (reply : Reply T U) where
  -- what is held is left, and the command may make something
  pub keeps : (made : Made)
      → ((table : List Made) (of : ℕ) → slice_index_or table of Nothing ≡ held
      → Carries environment defaults old new table (command of) reply table made)
      → ((table : List Made) (of : ℕ) → slice_index_or table of Nothing ≡ held → LeavesTable old new table table made)
      → Turns environment defaults old new held command (reply, held, made)
  keeps made carries leaves = record {
    carries = λ table of at. subst (λ (t : List Made). Carries environment defaults old new table
        (command of) reply t made) (sym (stands-there table of held at)) (carries table of at);
    leaves = λ table of at. subst (λ (t : List Made). LeavesTable old new table t made)
        (sym (stands-there table of held at)) (leaves table of at);
  }

  -- it spends nothing
  pub makes : (made : Made)
      → ((table : List Made) (of : ℕ) → slice_index_or table of Nothing ≡ held
      → Carries environment defaults old new table (command of) reply table made)
      → Stays old new → IsNewIn old (item_of made) → IsPlacedMade new made
      → Turns environment defaults old new held command (reply, held, made)
  makes made carries stays is placed =
      keeps made carries (λ table of at. leaves-making old new table stays made is placed)

  -- what is held is spent, and maybe left as another handle
  pub spends : (kept : Made)
      → ((table : List Made) (of : ℕ) → slice_index_or table of Nothing ≡ held
      → Carries environment defaults old new table (command of) reply (slice_set table of kept) Nothing)
      → StaysBut (item_of held) old new → ((start : Domain T U F G) → IsNewIn start (item_of held)
      → IsNewIn start (item_of kept)) → IsPlacedMade new kept
      → Turns environment defaults old new held command (reply, kept, Nothing)
  spends kept carries stays puts placed = record {
    carries = carries;
    leaves =
        λ table of at. leaves-spending old new table (slice_set table of kept) of held kept at stays puts refl placed;
  }

module _ {T U F G : Type 0} (environment : Environment) (defaults : Defaults T U) (domain : Domain T U F G)
    (held : Made) (command : ℕ → Command T U) where
  -- nothing changes
  pub looks : (reply : Reply T U)
      → ((table : List Made) (of : ℕ) → slice_index_or table of Nothing ≡ held
      → Carries environment defaults domain domain table (command of) reply table Nothing)
      → Turns environment defaults domain domain held command (reply, held, Nothing)
  looks reply carries = keeps environment defaults domain domain held command reply Nothing carries
      (λ table of at. leaves-all domain domain table table refl refl)

  -- the command is skipped
  abbrev Skips : List Made → ℕ → Type 0
  Skips table of = Carries environment defaults domain domain table (command of) Skipped table Nothing

  -- so a command on a publisher is, where there is none, and where it waits for a receiver
  pub unready : IsUnready domain held
      → ((table : List Made) (of : ℕ) → is_publisher_entry (entry_for (slice_index_or table of Nothing)) ≡ false
      → slice_index_or table of Nothing ≡ held → Skips table of)
      → ((table : List Made) (of : ℕ) (h : PublisherHandle) → slice_index_or table of Nothing ≡ MadePublisher h
      → ((m : Messages T U) (s : State T U) → Shows domain m s → IsUnblockedPort s h.id → ⊥) → Skips table of)
      → Turns environment defaults domain domain held command (Skipped, held, Nothing)
  unready waits passed held_up = looks Skipped (λ table of at. by table of at held refl)
    where
      by : (table : List Made) (of : ℕ) → slice_index_or table of Nothing ≡ held → (it : Made) → held ≡ it
          → Skips table of
      by table of at (MadePublisher h) is = held_up table of h (at ∙ is) (waits h is)
      by table of at Nothing is = passed table of (ap (λ (h : Made). is_publisher_entry (entry_for h)) (at ∙ is)) at
      by table of at (MadeSubscriber h) is =
          passed table of (ap (λ (h : Made). is_publisher_entry (entry_for h)) (at ∙ is)) at
      by table of at (Unwritten h) is =
          passed table of (ap (λ (h : Made). is_publisher_entry (entry_for h)) (at ∙ is)) at
      by table of at (Written h) is = passed table of (ap (λ (h : Made). is_publisher_entry (entry_for h)) (at ∙ is)) at
      by table of at (Blocked h) is = passed table of (ap (λ (h : Made). is_publisher_entry (entry_for h)) (at ∙ is)) at
      by table of at (MadeSample h) is =
          passed table of (ap (λ (h : Made). is_publisher_entry (entry_for h)) (at ∙ is)) at

-- a command that makes something is carried out
pub carried-here : {T U F G A : Type 0} {environment : Environment} {defaults : Defaults T U} {old new : Domain T U F G}
    {command : Command T U} {reply : Reply T U} {made : Made}
    (table : Vec Made A) → Makes environment defaults old new command reply made
    → CarriesOut environment defaults old new table table command reply made
carried-here table makes = record {
  carries = makes.carries table.items;
  leaves = makes.leaves table.items;
  room = record { len = refl; capacity = refl };
}

module _ {A : Type 0} {table taken : Vec Made A} {of : ℕ} {held : Made}
    (is_taken : IsTakenFromTable table taken of held) where
  -- what was taken is held
  pub taken-held : {T U F G : Type 0} (domain : Domain T U F G) → IsLiveTable domain table.items
      → IsLiveEntry domain held
  taken-held domain live = record { table = table.items; live = live; of = of; stands = sym is_taken.stood }

  -- the command is carried out
  pub carried : {T U F G : Type 0} {environment : Environment} {defaults : Defaults T U} {old new : Domain T U F G}
      {command : ℕ → Command T U} {turn : Reply T U × Made × Made}
      {after : Vec Made A} {result : Reply T U × Made} → Turns environment defaults old new held command turn
      → IsPutBack taken after of turn result
      → CarriesOut environment defaults old new table after (command of) result.0 result.1
  carried {turn = turn} {after = after} turns is_put_back =
      let items : after.items ≡ slice_set table.items of turn.1 =
      is_put_back.items ∙ ap (λ (t : List Made). slice_set t of turn.1) is_taken.items
      ∙ set_again table.items of Nothing turn.1 in
      rw (is_put_back.reply, is_put_back.made) (record {
        carries = rw items (turns.carries table.items of (sym is_taken.stood));
        leaves = rw items (turns.leaves table.items of (sym is_taken.stood));
        room = same-room-twice is_taken.room is_put_back.room;
      })
