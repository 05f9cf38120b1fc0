-- A subscriber's own connections are gone over: those that it alone has go, and borrowed messages are looked for.
use Rattle.std.proofs.Common.{◌⊎◌, ℕ, List, Option, inl, inr}
use Rattle.slab.specs.Slab.{Slab}
use Rattle.iox2_connections.specs.Link.{Link}
use Rattle.iox2_domain.specs.Departures.{BorrowsNothing, DropsUnshared}
use Rattle.iox2_domain.specs.Ports.{PublisherFields}

module _ (publishers : List (Option PublisherFields)) (q : ℕ) where
  -- nothing went, where these are no keys
  pub drops-none : (keys : ℕ → Type 0) (old : Slab Link) → ((k : ℕ) → keys k → ⊥)
      → DropsUnshared publishers q keys old old
  drops-none keys old none =
      record { kept = λ k c at. at; others = λ k c at. inl at; done = λ k c has. absurd (none k has) }

  -- first at some keys, and then at others
  pub drops-both : (first second keys : ℕ → Type 0) (old now new : Slab Link) → DropsUnshared publishers q first old now
      → DropsUnshared publishers q second now new
      → ((k : ℕ) → keys k → first k ⊎ second k) → DropsUnshared publishers q keys old new
  drops-both first second keys old now new a b either = record {
    kept = λ k c at. a.kept k c (b.kept k c at);
    others = λ k c at. elim (a.others k c at) [ inl there ↦ b.others k c there | inr alone ↦ inr alone ];
    done = λ k c has at its.
        elim (either k has) [ inl one ↦ a.done k c one (b.kept k c at) its | inr other ↦ b.done k c other at its ];
  }

  pub drops-among : (first keys : ℕ → Type 0) (old new : Slab Link) → DropsUnshared publishers q first old new
      → ((k : ℕ) → keys k → first k) → DropsUnshared publishers q keys old new
  drops-among first keys old new a among =
      record { kept = a.kept; others = a.others; done = λ k c has. a.done k c (among k has) }

module _ (connections : Slab Link) (q : ℕ) where
  -- nor at some keys and others
  pub nothing-both : (first second keys : ℕ → Type 0) → BorrowsNothing connections q first
      → BorrowsNothing connections q second → ((k : ℕ) → keys k → first k ⊎ second k)
      → BorrowsNothing connections q keys
  nothing-both first second keys a b either k c has at its =
      elim (either k has) [ inl one ↦ a k c one at its | inr other ↦ b k c other at its ]
