-- What the fields of a recorder keep.
use Rattle.std.specs.Prelude.{◌≡◌, ◌≤◌, vec_capacity, vec_len}
use Rattle.call_recorder.specs.Recorder.{Calls}
use Rattle.call_recorder.specs.declared.recorder.Recorder.TheInside.{Inside}

-- The calls that the fields stand for.
abbrev pub calls_of : Inside → Calls
calls_of r = record {
  commands = r.commands.items;
  replies = r.replies.items;
  room = vec_capacity r.commands;
  missed = r.missed;
  bytes = r.bytes;
}

-- There is as much room for replies and for names as for commands, and where none was missed no more names are in it
-- than commands.
pub record IsRecorder (r : Inside) : Type 0 where
  pub replies : vec_len r.replies ≡ vec_len r.commands
  pub room_for_replies : vec_capacity r.replies ≡ vec_capacity r.commands
  pub names : r.missed ≡ 0 → vec_len r.table ≤ vec_len r.commands
  pub room_for_names : vec_capacity r.table ≡ vec_capacity r.commands
