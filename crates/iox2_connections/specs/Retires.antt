-- What becomes of a departed publisher's connection.
use Rattle.std.specs.Prelude.{ℕ, Bool, false, not, if◌then◌else◌, nat_lt, List, [], ◌∷◌, length}
use Rattle.std.specs.declared.option.Option.{Option}
use Rattle.std.specs.declared.option.Option.TheVariants.{None, Some}
use Rattle.slab.specs.Slab.{Slab, get}
use Rattle.iox2_connections.specs.Link.{Link}
use Rattle.iox2_machine.specs.machine.Numbers.{is_nil}
use Rattle.iox2_connections.specs.declared.retirement.Retirement.{Retirement}
use Rattle.iox2_connections.specs.declared.retirement.Retirement.TheVariants.{KeepExpired, Evict, DiscardData, Refuse}

-- Something is borrowed of the connection, if there is one.
abbrev pub has_borrowed : Option Link → Bool
has_borrowed None = false
has_borrowed (Some c) = not (is_nil c.borrowed)

-- The first of these keys whose connection has nothing borrowed.
abbrev pub first_unborrowed : Slab Link → List ℕ → Option ℕ
first_unborrowed connections [] = None
first_unborrowed connections (key ∷ keys) =
    if has_borrowed (get connections key) then first_unborrowed connections keys else Some key

-- The connection at this key is evicted; where there is none, the retirement is refused.
abbrev pub evict_link_or_refuse : Option ℕ → Retirement
evict_link_or_refuse None = Refuse
evict_link_or_refuse (Some key) = Evict key

-- What becomes of the connection at the key, if at most that many may be kept and these are kept already.
abbrev pub chosen : Slab Link → (limit : ℕ) → (expired : List ℕ) → (key : ℕ) → Retirement
chosen connections limit expired key =
    if nat_lt (length expired) limit then KeepExpired
    else if has_borrowed (get connections key) then evict_link_or_refuse
    (first_unborrowed connections expired) else DiscardData
