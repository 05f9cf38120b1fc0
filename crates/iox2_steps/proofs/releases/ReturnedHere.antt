-- A message is given back where it lies, between ports that both stay.
use Rattle.std.proofs.Common.{◌≡◌, ℕ, true, get_or, None, Some, Contains, IsSomeAnd, refl, ap, sym, subst, ◌∙◌}
use Rattle.slab.specs.Slab.{Slab, get}
use Rattle.iox2_connections.specs.Link.{Link}
use Rattle.iox2_connections.specs.declared.connection.Home.{Home}
use Rattle.iox2_machine.specs.machine.Mailbox.{is_borrowed}
use Rattle.iox2_machine.specs.machine.Numbers.{IsOnce}
use Rattle.iox2_machine.specs.machine.Releases.{released}
use Rattle.iox2_connections.specs.Homes.{SameHomes}
use Rattle.iox2_connections.specs.Takes.{KeepsOtherKeys, SameStands, ReleasesSlot}
use Rattle.iox2_domain.specs.Fields.{Fields, kept_of}
use Rattle.iox2_domain.specs.Invariant.{IsBetweenOpen, IsDomain}
use Rattle.iox2_domain.specs.Kept.{state_of}
use Rattle.iox2_domain.specs.Ports.{PublisherFields}
use Rattle.iox2_domain.specs.Reaches.{Reaches}
use Rattle.iox2_domain.specs.SampleSlots.{IsReturnable, LiesAtHint}
use Rattle.iox2_domain.specs.declared.sample_slots.SampleAt.{SampleAt}
use Rattle.iox2_domain.specs.declared.sample_slots.SampleSlot.{SampleSlot}
use Rattle.iox2_steps.proofs.releases.BookFreed.{attains}
use Rattle.iox2_steps.proofs.releases.GivenBack.{borrowed-at-home, gives-back, pruned-boxes}
use Rattle.iox2_steps.proofs.releases.HandedBack.{HandsBack, IsBorrowedAt, borrowed-there, hands-back-present}
use Rattle.iox2_steps.proofs.releases.HandedBack.{once-there}
use Rattle.iox2_steps.proofs.releases.Leaving.{stays-open}
use Rattle.iox2_domain.proofs.lemmas.samples.BorrowedNumbers.{lies-borrowed}

module _ {T U : Type 0} (f : Fields T U) (sound : IsDomain f) (sample : SampleAt) (lies : LiesAtHint f sample) where
  -- where the sample lies
  abbrev at : SampleSlot
  at = record { connection = sample.connection; book = sample.book; slot = sample.slot }

  abbrev home : Home
  home = (lies.connection).home

  borrowed-here : IsBorrowedAt f.connections sample.connection sample.slot home
  borrowed-here = borrowed-at-home f sound sample.subscriber sample.number at lies home refl

  -- what its slot's release asks for
  pub borrowed-at : IsSomeAnd (get f.connections sample.connection) (λ (d : Link). Contains d.borrowed sample.slot)
  borrowed-at = borrowed-there f sound sample.connection sample.slot home borrowed-here

  pub once-at : IsSomeAnd (get f.connections sample.connection) (λ (d : Link). IsOnce d.borrowed)
  once-at = once-there f sound sample.connection sample.slot home borrowed-here

module _ {T U : Type 0} (f : Fields T U) (sample : SampleAt) (lies : LiesAtHint f sample) where
  -- its mark is read
  pub is-returnable : (v : Fields T U) → v ≡ f → (d : Link) → get v.connections sample.connection ≡ Some d
      → d.is_open ≡ true → IsReturnable f sample
  is-returnable v view d read is_open =
      let one : Some d ≡ Some lies.connection =
      sym read ∙ ap (λ (g : Fields T U). get g.connections sample.connection) view ∙ lies.has_connection in
      let same : d ≡ lies.connection = cc in
      record { lies = lies; marked = sym (ap (λ (l : Link). l.is_open) same) ∙ is_open }

module _ {T U : Type 0} (f : Fields T U) (sound : IsDomain f) (sample : SampleAt) (may : IsReturnable f sample) where
  -- both of its ports stay
  both : IsBetweenOpen f.publishers f.subscribers sample.connection (may.lies).connection
  both = sound.parts.linked.marked sample.connection (may.lies).connection (may.lies).has_connection may.marked

  its-publisher : IsSomeAnd (get_or f.publishers (home f sound sample may.lies).publisher_place None)
      (λ (x : PublisherFields). x.id ≡ (home f sound sample may.lies).publisher)
  its-publisher = rw both.sender.stands both.sender.is_its

  module _ (new : Slab Link)
      (midway : HandsBack f (home f sound sample may.lies) sample.slot (record f { connections = new })) where
    abbrev mid : Fields T U
    mid = record f { connections = new }

    -- neither the subscriber leaves nor the book goes
    returns-alone : (p : ℕ) → is_borrowed sample.number ((state_of (kept_of f)).mailboxes p sample.subscriber) ≡ true
        → Reaches f mid (released (state_of (kept_of f)) p sample.subscriber sample.number)
    returns-alone =
        gives-back f sound sample.subscriber sample.number (at f sound sample may.lies) may.lies
        (home f sound sample may.lies) refl mid mid mid midway both.receiver.subscriber both.receiver.is_its
        (stays-open mid midway.consistent
        (home f sound sample may.lies).subscriber_place both.receiver.subscriber both.receiver.stands
        (pruned-boxes f sound sample.subscriber sample.number (at f sound sample may.lies) may.lies
        (home f sound sample may.lies) refl mid midway both.receiver.subscriber both.receiver.is_its)
        both.receiver.is_open)
        (λ before s step is well.
        attains mid (record { at = sound.kept_books.at }) before s (home f sound sample may.lies).book step is well)

  abbrev ReturnsInto : (g : Fields T U) → Type 0
  ReturnsInto g = (p : ℕ) → is_borrowed sample.number ((state_of (kept_of f)).mailboxes p sample.subscriber) ≡ true
      → Reaches f g (released (state_of (kept_of f)) p sample.subscriber sample.number)

  -- what the code gives back
  pub returns-here : (v : Fields T U) → v ≡ f → (new : Slab Link)
      → ReleasesSlot v.connections sample.connection sample.slot new → SameHomes v.connections new
      → KeepsOtherKeys sample.connection v.connections new → SameStands v.connections new → (p : ℕ)
      → is_borrowed sample.number ((state_of (kept_of f)).mailboxes p sample.subscriber) ≡ true
      → Reaches f (record v { connections = new }) (released (state_of (kept_of f)) p sample.subscriber sample.number)
  returns-here v view new releases homes others stay =
      subst (λ (g : Fields T U). ReleasesSlot g.connections sample.connection sample.slot new
      → SameHomes g.connections new → KeepsOtherKeys sample.connection g.connections new → SameStands g.connections new
      → ReturnsInto (record g { connections = new })) (sym view)
      (λ releases_now homes_now others_now stay_now.
      returns-alone new (hands-back-present f sound sample.connection sample.slot (home f sound sample may.lies)
      (borrowed-here f sound sample may.lies) new releases_now homes_now others_now stay_now
      its-publisher sound.kept_books))
      releases homes others stay

  -- the message was borrowed from somebody
  pub its-lender : is_borrowed sample.number
      ((state_of (kept_of f)).mailboxes (home f sound sample may.lies).publisher sample.subscriber) ≡ true
  its-lender = lies-borrowed f sound sample.subscriber sample.number (at f sound sample may.lies) may.lies
