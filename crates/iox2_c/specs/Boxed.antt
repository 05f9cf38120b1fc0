-- What C knows of the domain that it owns, if it has one.
use Rattle.std.specs.Prelude.{ℕ, ◌≡◌, IfSome}
use Rattle.std.specs.declared.option.Option.{Option}
use Rattle.std.specs.declared.option.Option.TheVariants.{None, Some}
use Rattle.iox2_pubsub.specs.Live.{Item}
use Rattle.iox2_c.specs.Serving.{KeptBytes, Serving, ServesBut}
use Rattle.iox2_c.specs.declared.status.TheConstants.{NO_DOMAIN}

-- This is so of the domain, which is there.
abbrev pub Knows : (KeptBytes → Type 0) → Option Serving → Type 0
Knows P service = IfSome service (λ it. P it.domain)

-- There is no domain, or this is false of it.
abbrev pub KnowsNo : (KeptBytes → Type 0) → Option Serving → Type 0
KnowsNo P service = IfSome service (λ it. P it.domain → ⊥)

-- This is so of the domain as it was and as it is. Where there was none, there is none.
abbrev pub Becomes : (KeptBytes → KeptBytes → Type 0) → (old new : Option Serving) → Type 0
Becomes P None new = new ≡ None
Becomes P (Some old) new = (it : Serving) × (new ≡ Some it) × P old.domain it.domain

-- This is so of the domain as it was and as it is, with its lengths. Where there was none, there is none.
abbrev pub HoldsFromOldToNew : (Serving → Serving → Type 0) → (old new : Option Serving) → Type 0
HoldsFromOldToNew P None new = new ≡ None
HoldsFromOldToNew P (Some old) new = (it : Serving) × (new ≡ Some it) × P old it

-- If there was a domain, there still is one, and all that was live in it stays, except the item. If there was none,
-- there is none.
abbrev pub HoldsOn : Item → (old new : Option Serving) → Type 0
HoldsOn item None new = new ≡ None
HoldsOn item (Some old) new = (it : Serving) × (new ≡ Some it) × ServesBut item old it

-- The call did this to the domain. Where there is none it returned the code for that, there still is none, and what it
-- would have told is as it was.
abbrev pub Lifted : (Stays : Type 0) (Returns : Serving → Serving → Type 0) (old new : Option Serving) (code : ℕ)
    → Type 0
Lifted Stays Returns None new code = (code ≡ NO_DOMAIN) × (new ≡ None) × Stays
Lifted Stays Returns (Some old) new code = (it : Serving) × (new ≡ Some it) × Returns old it
