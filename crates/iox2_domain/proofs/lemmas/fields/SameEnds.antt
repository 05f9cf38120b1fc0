-- Connections change, and none is made, goes or moves: the ends of all ports stay.
use Rattle.std.proofs.Common.{◌≡◌, ℕ, List, Bool, length, map, refl, ap, sym, ◌∙◌, ◌⊎◌, Option, None, Some, true}
use Rattle.std.specs.Prelude.{[]}
use Rattle.std.specs.Option.{option_map}
use Rattle.slab.specs.Slab.{Slab, get}
use Rattle.iox2_connections.specs.Link.{Link}
use Rattle.iox2_machine.specs.machine.Channel.{Channel}
use Rattle.iox2_machine.specs.machine.Limits.{channel_count}
use Rattle.iox2_connections.specs.declared.connection.Home.{Home}
use Rattle.iox2_connections.specs.Homes.{SameHomes, fixed_of}
use Rattle.iox2_connections.specs.Mailboxes.{mailboxes_of, subscriber_of_key, publisher_of_key}
use Rattle.iox2_connections.proofs.MailboxChanges.{was}
use Rattle.iox2_domain.specs.Kept.{state_of, port_named, ids}
use Rattle.iox2_domain.specs.Fields.{Fields, kept_of, number_in_slot}
use Rattle.iox2_domain.specs.Invariant.{IsLinked, IsBetweenOpen, SenderHas}
use Rattle.iox2_domain.proofs.lemmas.fields.KeptChannels.{channels-are, channels-still}
use Rattle.iox2_domain.proofs.lemmas.fields.Views.{mailboxes-are}
use Rattle.iox2_domain.proofs.lemmas.fields.SameSeats.{SameSeats, seat_of, seated-publisher_of_key}
use Rattle.iox2_domain.proofs.lemmas.fields.SameSeats.{seated-subscriber_of_key, senders-seated, receivers-seated}
use Rattle.iox2_domain.proofs.lemmas.fields.SameSeats.{sender-seated, open-seated, linked-seated}
use mathlib.Core.Path.{fun_ext}

module _ (old new : Slab Link) (same : SameHomes old new) where
  -- all the more each connection keeps its seat
  pub seats-of : SameSeats old new
  seats-of = record {
    same = λ key. through (get new key) ∙ ap (option_map (λ (t : Home × ℕ × ℕ × Bool × List Channel). (t.0, t.1, t.2)))
        (same.same key) ∙ sym (through (get old key));
  } where
    through : (o : Option Link) → option_map seat_of o ≡ option_map
        (λ (t : Home × ℕ × ℕ × Bool × List Channel). (t.0, t.1, t.2)) (option_map fixed_of o)
    through None = refl
    through (Some c) = refl

  -- each key leads to the same publisher
  pub same-publisher_of_key : publisher_of_key new ≡ publisher_of_key old
  same-publisher_of_key = seated-publisher_of_key old new seats-of

  -- each key leads to the same subscriber
  pub same-subscriber_of_key : subscriber_of_key new ≡ subscriber_of_key old
  same-subscriber_of_key = seated-subscriber_of_key old new seats-of

  -- a connection that stood still does, between the same ports
  pub stands_still : (key : ℕ) (c : Link) → get old key ≡ Some c
      → (d : Link) × (get new key ≡ Some d) × (fixed_of d ≡ fixed_of c)
  stands_still key c at = was new old key c (record { same = λ k. sym (same.same k) }) at

module _ {T U : Type 0} (f : Fields T U) (new : Slab Link) (same : SameHomes f.connections new) where
  -- the fields with these connections
  abbrev pub with_connections : Fields T U
  with_connections = record f { connections = new }

  seats : SameSeats f.connections new
  seats = seats-of f.connections new same

  channels : (state_of (kept_of with_connections)).channels ≡ (state_of (kept_of f)).channels
  channels = channels-are with_connections ∙ channels-still f.connections new same ∙ sym (channels-are f)

  -- the machine knows of the connections by the mailboxes alone
  pub connections-are : state_of (kept_of with_connections) ≡ record (state_of (kept_of f))
      { mailboxes = mailboxes_of (number_in_slot f.books) new }
  connections-are = λ i. record (state_of (kept_of f)) {
    publishers = λ p. port_named p (map (option_map (senders-seated f new seats i)) f.publishers);
    subscribers = λ q. port_named q (map (option_map (receivers-seated f new seats i)) f.subscribers);
    mailboxes = boxes i;
    channels = channels i;
    publisher_places = ids (map (option_map (senders-seated f new seats i)) f.publishers);
    subscriber_places = ids (map (option_map (receivers-seated f new seats i)) f.subscribers);
  }
    where
      boxes : (state_of (kept_of with_connections)).mailboxes ≡ mailboxes_of (number_in_slot f.books) new
      boxes = fun_ext (λ p. fun_ext (λ q. mailboxes-are with_connections p q))

  seat-same : (c d : Link) → fixed_of c ≡ fixed_of d → seat_of c ≡ seat_of d
  seat-same c d fixed = ap (λ (t : Home × ℕ × ℕ × Bool × List Channel). (t.0, t.1, t.2)) fixed

  pub sender-same : (key : ℕ) (c d : Link) → fixed_of c ≡ fixed_of d → SenderHas f.publishers key c
      → SenderHas f.publishers key d
  sender-same key c d fixed has = sender-seated f new seats key c d (seat-same c d fixed) has

  -- ports and connections still know of each other, where each slot that was given back has its publisher
  pub linked-still : IsLinked f → ((key : ℕ) (c : Link) → get new key ≡ Some c
      → SenderHas f.publishers key c ⊎ (c.returned ≡ [])) → IsLinked with_connections
  linked-still linked returned = linked-seated f new seats linked counts returned marked where
    counts : (key : ℕ) (d : Link) → get new key ≡ Some d → length d.channels ≡ channel_count f.config
    counts key d at =
        let c = was f.connections new key d same at in
        sym (ap (λ (t : Home × ℕ × ℕ × Bool × List Channel). length t.4) c.2) ∙ linked.channel_counts key c.0 c.1

    marked : (key : ℕ) (d : Link) → get new key ≡ Some d → d.is_open ≡ true
        → IsBetweenOpen f.publishers f.subscribers key d
    marked key d at is =
        let c = was f.connections new key d same at in
        let both = linked.marked key c.0 c.1 (ap (λ (t : Home × ℕ × ℕ × Bool × List Channel). t.3) c.2 ∙ is) in
        record {
          sender = sender-same key c.0 d c.2 both.sender;
          receiver = open-seated f new seats c.0 d (seat-same c.0 d c.2) both.receiver;
        }
