-- Which states and messages a domain shows.
use Rattle.iox2_machine.specs.machine.State.{State, Messages}
use Rattle.iox2_machine.specs.Stored.{Stored, StoredKeepsEntries, StoredShows}
use Rattle.iox2_domain.specs.Kept.{Kept, state_of, entries_of}

module _ {T U F G : Type 0} where
  -- The state that is kept, and the entries.
  abbrev pub stored_of : Kept T U F G → Stored T U
  stored_of kept = record { state = state_of kept; entries = entries_of kept }

  -- Each message of a publisher that somebody holds has its entry, whose header names that publisher.
  abbrev pub KeepsEntries : Kept T U F G → Type 0
  KeepsEntries kept = StoredKeepsEntries (stored_of kept)

  -- What is kept is this state, with these messages where an entry is kept.
  abbrev pub Shows : Kept T U F G → Messages T U → State T U → Type 0
  Shows kept messages s = StoredShows (stored_of kept) messages s
