-- What a subscriber sees of a state as one value, and what changes of the state do to it.
use Rattle.std.proofs.Common.{◌≡◌, ℕ, Bool, true, false, cond, ◌||◌, List, refl, sym, ap, ◌∙◌, Option, None, Some, eqb}
use Rattle.std.proofs.Math.Path.{fun_ext}
use Rattle.std.specs.Option.{option_and_then, option_map_or}
use Rattle.iox2_machine.specs.machine.Numbers.{put_at, contains}
use Rattle.iox2_machine.specs.machine.Places.{occupants}
use Rattle.iox2_machine.specs.machine.Channel.{Channel, new_channels, is_closed}
use Rattle.iox2_machine.specs.machine.Mailbox.{Mailbox}
use Rattle.iox2_machine.specs.machine.Records.{Loan, Publisher, Subscriber}
use Rattle.iox2_machine.specs.machine.State.{State, receiving_buffer, channel_buffer, connected_publishers}
use Rattle.iox2_machine.specs.machine.State.{channels_if_linked, sender_channels_reset, receiver_channels_reset}
use Rattle.iox2_machine.specs.declared.service_config.ServiceConfig.{ServiceConfig}
use Rattle.std.proofs.lemmas.Bool.{eqb-true}
use Rattle.iox2_laws.proofs.Puts.{put_at-same, put_at-other, at_each}
use Rattle.iox2_commands.specs.Views.{PublicPart, public_part}

-- All that a subscriber sees of a state.
pub record View (T U : Type 0) : Type 0 where
  pub config : ServiceConfig
  pub next_port : ℕ
  pub next_message : ℕ
  pub loans : ℕ → Option (Loan T U)
  pub publishers : ℕ → Option Publisher
  pub publisher_places : List (Option ℕ)
  pub subscriber_places : List (Option ℕ)
  pub others : ℕ → Option PublicPart
  pub own : Option Subscriber
  pub mailboxes : ℕ → Mailbox
  pub channels : ℕ → ℕ → Channel

-- one row is changed
pub row_put : {X : Type 0} (q : ℕ) (boxes : ℕ → ℕ → X) (p : ℕ) (row : ℕ → X) (i : ℕ)
    → put_at boxes p row i q ≡ put_at (λ k. boxes k q) p (row q) i
row_put q boxes p row i =
    elim (eqb i p) as (λ b. (cond b row (boxes i)) q ≡ cond b (row q) (boxes i q)) [ true ↦ refl | false ↦ refl ]

-- one mailbox of a row is changed
pub cell_put : (boxes : ℕ → ℕ → Mailbox) (q p : ℕ) (box : Mailbox) (i : ℕ)
    → put_at boxes p (put_at (boxes p) q box) i q ≡ put_at (λ k. boxes k q) p box i
cell_put boxes q p box i = row_put q boxes p (put_at (boxes p) q box) i
    ∙ ap (λ (v : Mailbox). put_at (λ k. boxes k q) p v i) (put_at-same (boxes p) q box)

-- a mailbox in another column is changed
pub cell_other : (boxes : ℕ → ℕ → Mailbox) (q r p : ℕ) (box : Mailbox) (i : ℕ) → eqb q r ≡ false
    → put_at boxes p (put_at (boxes p) r box) i q ≡ boxes i q
cell_other boxes q r p box i apart =
    at_each boxes p (put_at (boxes p) r box) (λ k row. row q ≡ boxes k q) i (λ _. put_at-other (boxes p) r box q apart)
    (λ _. refl)

-- the buffers that take messages are seen
abbrev pub buffer_seen : Option PublicPart → Option ℕ
buffer_seen o = option_and_then (λ (part : PublicPart). cond part.is_open (Some part.buffer) None) o

module _ {T U : Type 0} where
  -- What the subscriber q sees.
  abbrev pub view_of : (q : ℕ) → State T U → View T U
  view_of q s = record {
    config = s.config;
    next_port = s.next_port;
    next_message = s.next_message;
    loans = s.loans;
    publishers = s.publishers;
    publisher_places = s.publisher_places;
    subscriber_places = s.subscriber_places;
    others = λ r. public_part (s.subscribers r);
    own = s.subscribers q;
    mailboxes = λ p. s.mailboxes p q;
    channels = λ p. s.channels p q;
  }

  -- a view with the same parts is the same
  pub same_parts : (v : View T U) (others : ℕ → Option PublicPart) (own : Option Subscriber) (mailboxes : ℕ → Mailbox)
      → ((r : ℕ) → others r ≡ v.others r) → own ≡ v.own → ((p : ℕ) → mailboxes p ≡ v.mailboxes p)
      → record v { others = others; own = own; mailboxes = mailboxes } ≡ v
  same_parts v others own mailboxes e1 e2 e3 =
      λ i. record v { others = λ r. e1 r i; own = e2 i; mailboxes = λ p. e3 p i }

  -- a record that is changed for another with the same public part is the same to others
  pub others_put : (s : State T U) (r : ℕ) (y : Option Subscriber) (i : ℕ)
      → public_part (put_at s.subscribers r y i) ≡ put_at (λ k. public_part (s.subscribers k)) r (public_part y) i
  others_put s r y i = elim (eqb i r) as (λ b. public_part (cond b y (s.subscribers i)) ≡ cond b (public_part y)
      (public_part (s.subscribers i))) [ true ↦ refl | false ↦ refl ]

  -- a record that is changed and keeps its public part
  pub others_same : (s : State T U) (r : ℕ) (y : Option Subscriber) (i : ℕ)
      → public_part y ≡ public_part (s.subscribers r)
      → public_part (put_at s.subscribers r y i) ≡ public_part (s.subscribers i)
  others_same s r y i same =
      at_each s.subscribers r y (λ k v. public_part v ≡ public_part (s.subscribers k)) i (λ _. same) (λ _. refl)

  -- of each subscriber
  pub receiving_buffer_seen : (s : State T U) (r : ℕ)
      → receiving_buffer s r ≡ buffer_seen (public_part (s.subscribers r))
  receiving_buffer_seen s r =
      elim (s.subscribers r) as (λ (o : Option Subscriber).
      option_and_then (λ (y : Subscriber). cond y.is_open (Some y.buffer) None) o ≡ buffer_seen (public_part o))
      [ None ↦ refl | Some y ↦ refl ]

  -- The buffer into which messages of p are put in that channel.
  abbrev pub own_buffer : (q p channel : ℕ) → View T U → Option ℕ
  own_buffer q p channel v = cond (is_closed (v.channels p channel)) None (buffer_seen (v.others q))

  pub own_buffer_seen : (s : State T U) (p channel q : ℕ)
      → channel_buffer s p channel q ≡ own_buffer q p channel (view_of q s)
  own_buffer_seen s p channel q =
      ap (λ (o : Option ℕ). cond (is_closed (s.channels p q channel)) None o) (receiving_buffer_seen s q)

  -- ---- channels of ports that aren't connected any more

  -- p and the subscriber q are connected, told from the view of q.
  abbrev pub linked_seen : (q : ℕ) → View T U → (p : ℕ) → Bool
  linked_seen q v p =
      option_map_or (λ (x : Publisher). contains (occupants x.ends) q) (v.publishers p) false
      || option_map_or (λ (y : Subscriber). contains (connected_publishers y) p) v.own false

  -- The view after the publisher p's channels were reset.
  abbrev pub sender_reset_view : (q p : ℕ) → View T U → View T U
  sender_reset_view q p v =
      record v { channels = put_at v.channels p (cond (linked_seen q v p) (v.channels p) new_channels) }

  pub sender_reset_seen : (q : ℕ) (s : State T U) (p : ℕ)
      → view_of q (sender_channels_reset s p) ≡ sender_reset_view q p (view_of q s)
  sender_reset_seen q s p =
      λ i. record (view_of q s) { channels = λ k. row_put q s.channels p (channels_if_linked s p) k i }

  -- The view after q's own channels were reset, or another subscriber's, which change nothing of it.
  abbrev pub receiver_reset_view : (q : ℕ) → (is_own : Bool) → View T U → View T U
  receiver_reset_view q is_own v =
      record v { channels = λ p. cond is_own (cond (linked_seen q v p) (v.channels p) new_channels) (v.channels p) }

  pub receiver_reset_seen : (q : ℕ) (s : State T U) (r : ℕ)
      → view_of q (receiver_channels_reset s r) ≡ receiver_reset_view q (eqb q r) (view_of q s)
  receiver_reset_seen q s r = λ i. record (view_of q s) { channels = λ p. at p i }
    where
      at : (p : ℕ) → put_at (s.channels p) r (channels_if_linked s p r) q ≡ cond (eqb q r) (channels_if_linked s p q)
          (s.channels p q)
      at p = elim (eqb q r) as (λ b. eqb q r ≡ b
          → cond b (channels_if_linked s p r) (s.channels p q) ≡ cond b (channels_if_linked s p q) (s.channels p q)) [
            | true ↦ λ same. ap (channels_if_linked s p) (sym (eqb-true q r same))
            | false ↦ λ _. refl
          ] refl

  -- so it isn't seen by others
  pub receiver_reset_apart : (q r : ℕ) → eqb q r ≡ false → (s : State T U)
      → view_of q (receiver_channels_reset s r) ≡ view_of q s
  receiver_reset_apart q r apart s = receiver_reset_seen q s r ∙ ap (λ b. receiver_reset_view q b (view_of q s)) apart

  -- so those are the same in states with the same view
  pub same_buffers : (q : ℕ) (a b : State T U) → view_of q a ≡ view_of q b → receiving_buffer a ≡ receiving_buffer b
  same_buffers q a b e = fun_ext (λ r.
      receiving_buffer_seen a r ∙ ap (λ (v : View T U). buffer_seen (v.others r)) e ∙ sym (receiving_buffer_seen b r))
