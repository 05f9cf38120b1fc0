-- What holds of a publisher's ends and mailboxes throughout its update.
use Rattle.std.proofs.Common.{◌≡◌, ℕ, ◌≤◌, ◌<◌, true, false, cond, List, [], length, refl, sym, ap, subst, ◌∙◌, arith}
use Rattle.std.proofs.Common.{eqb, Option, None, Some, ◌⊎◌, inl, inr, ⊎_elim}
use Rattle.std.proofs.lemmas.Bool.{true≢false, eqb-false, eq-eqb, ne_eqb, cond_both}
use Rattle.std.proofs.lemmas.Option.{none-some, same_Some, cond_some, option_and_then_some}
use Rattle.iox2_machine.specs.machine.Limits.{buffer_limit, channel_count}
use Rattle.iox2_machine.specs.machine.Numbers.{put_at, contains, last_n, IsOnce}
use Rattle.iox2_machine.specs.machine.Places.{occupant, set_place, is_port}
use Rattle.iox2_machine.specs.machine.Channel.{is_closed}
use Rattle.iox2_machine.specs.machine.Mailbox.{Mailbox, numbers_in, has_numbers, has_borrows, waiting_count}
use Rattle.iox2_machine.specs.machine.Mailbox.{waiting_dropped, with_waiting, IsWithin, OthersWithin}
use Rattle.iox2_machine.specs.machine.Records.{Publisher, Subscriber, Environment}
use Rattle.iox2_machine.specs.machine.State.{State, receiving_buffer, has_receiver_end}
use Rattle.iox2_machine.specs.machine.Connections.{ForEachPlace}
use Rattle.iox2_machine.specs.machine.PublisherUpdate.{SenderSide, SenderAction, Keep_end, Drop_waiting, Disconnect}
use Rattle.iox2_machine.specs.machine.PublisherUpdate.{Connect, sender_action, dropped, disconnected, connected}
use Rattle.iox2_machine.specs.machine.PublisherUpdate.{Performs, UpdateSenderPlace, sender_side, history_for}
use Rattle.iox2_machine.specs.machine.WellFormed.{LeadsTo, IsInjective, subscriber_place, IsWellFormed}
use Rattle.iox2_machine.specs.machine.WellFormed.{PublisherIsWellFormed, SubscriberIsWellFormed}
use Rattle.iox2_machine.specs.declared.errors.ConnectionFailure.{ConnectionFailure}
use Rattle.iox2_laws.proofs.Puts.{at_each}
use Rattle.iox2_laws.proofs.NumberLemmas.{false_from}
use Rattle.iox2_laws.proofs.PlaceLemmas.{length-set_place_le, occupant-set_place, is_port-true, is_port-false}
use Rattle.iox2_laws.proofs.PlaceLemmas.{injective_removed, injective_set, found_set}
use Rattle.iox2_laws.proofs.MailboxLemmas.{has_numbers-borrows, has_numbers_dropped, IsWithin-dropped}
use Rattle.iox2_laws.proofs.MailboxLemmas.{contains_in_dropped, OthersWithin-dropped, IsWithin-history}
use Rattle.iox2_laws.proofs.MailboxLemmas.{waiting_count-history, contains_in_history, has_borrows-history}
use Rattle.iox2_laws.proofs.Walks.{for_each_place_keeps}

-- an end at another place stays where one is set
pub end_stays : (ends : List (Option ℕ)) (place i r : ℕ) (end : Option ℕ) → (i ≡ place → ⊥) → occupant ends i ≡ Some r
    → occupant (set_place ends place end) i ≡ Some r
end_stays ends place i r end apart h =
    let other : eqb i place ≡ false = ne_eqb i place apart in
    occupant-set_place ends place end i ∙ rw other h

-- the end that was set
pub end_set : (ends : List (Option ℕ)) (place : ℕ) (end : Option ℕ) → occupant (set_place ends place end) place ≡ end
end_set ends place end = occupant-set_place ends place end place ∙ rw (eq-eqb place place refl) refl

-- where an end goes, nothing stands afterwards
pub nothing_after : (side : SenderSide) (place : ℕ) (end : Option ℕ) → occupant side.ends place ≡ end
    → occupant (disconnected side place end).ends place ≡ None
nothing_after side place None e = e
nothing_after side place (Some q) e = end_set side.ends place None

module _ {T U : Type 0} where
  -- the bounds of the configuration, and of the receiver's buffer
  abbrev pub KeepsLimits : State T U → Mailbox → Type 0
  KeepsLimits s box = IsWithin (buffer_limit s.config) (s.config).subscriber_max_borrowed_samples box

  abbrev pub FitsBuffer : State T U → (q : ℕ) → Mailbox → Type 0
  FitsBuffer s q box = (y : Subscriber) → s.subscribers q ≡ Some y → waiting_count box ≤ y.buffer

  -- the same of the channels other than 0
  abbrev pub OthersKeepLimits : State T U → Mailbox → Type 0
  OthersKeepLimits s box = OthersWithin (channel_count s.config) (buffer_limit s.config) box

  abbrev pub OthersFit : State T U → (q : ℕ) → Mailbox → Type 0
  OthersFit s q box = (y : Subscriber) → s.subscribers q ≡ Some y → OthersWithin (channel_count s.config) y.buffer box

  -- each number was in the mailbox before, or it is of the history
  abbrev pub ComesFrom : State T U → (p : ℕ) → Publisher → (q : ℕ) → Mailbox → Type 0
  ComesFrom s p x q box =
      (n : ℕ) → contains (numbers_in box) n ≡ true
      → (contains (numbers_in (s.mailboxes p q)) n ≡ true) ⊎ (contains x.history n ≡ true)

  -- These ends and mailboxes of the publisher p keep their bounds, and hold nothing but what it had before and its
  -- history.
  pub record SenderSideIsWellFormed (s : State T U) (p : ℕ) (x : Publisher) (ends : List (Option ℕ))
      (boxes : ℕ → Mailbox) : Type 0 where
    pub ends_bound : length ends ≤ (s.config).max_subscribers
    pub ends_apart : IsInjective ends
    pub ends_known : (q : ℕ) → LeadsTo ends q → q < s.next_port
    pub ends_stand : (place q : ℕ) (y : Subscriber) → occupant ends place ≡ Some q → s.subscribers q ≡ Some y
        → y.place ≡ place
    pub within : (q : ℕ) → KeepsLimits s (boxes q)
    pub room : (q : ℕ) → FitsBuffer s q (boxes q)
    pub others : (q : ℕ) → OthersKeepLimits s (boxes q)
    pub others_room : (q : ℕ) → OthersFit s q (boxes q)
    pub known : (q : ℕ) → has_numbers (boxes q) ≡ true → q < s.next_port
    pub sender_end : (q : ℕ) → has_numbers (boxes q) ≡ true → LeadsTo ends q
    pub borrows : (q : ℕ) → has_borrows (boxes q) ≡ true → has_borrows (s.mailboxes p q) ≡ true
    pub borrowed : (q : ℕ) → has_borrows (s.mailboxes p q) ≡ true → has_borrows (boxes q) ≡ true
    pub comes_from : (q : ℕ) → ComesFrom s p x q (boxes q)

  -- a subscriber stands at its place, and at no other
  stands_at : (s : State T U) → IsWellFormed s → (q : ℕ) (y : Subscriber) → s.subscribers q ≡ Some y
      → occupant s.subscriber_places y.place ≡ Some q
  stands_at s w q y e = (w.subscriber_places).stands q y.place (rw e refl)

  pub place_is : (s : State T U) → IsWellFormed s → (q place : ℕ) (y : Subscriber) → s.subscribers q ≡ Some y
      → occupant s.subscriber_places place ≡ Some q → y.place ≡ place
  place_is s w q place y e h =
      let found : subscriber_place s q ≡ Some place = (w.subscriber_places).known q place h in
      same_Some y.place place (rw e at found)

  -- a buffer that takes messages is a subscriber's
  buffer_of : (s : State T U) (q buffer : ℕ) → receiving_buffer s q ≡ Some buffer
      → (y : Subscriber) × (s.subscribers q ≡ Some y) × (y.buffer ≡ buffer)
  buffer_of s q buffer h =
      option_and_then_some (λ (y : Subscriber). cond y.is_open (Some y.buffer) None) (s.subscribers q) buffer h
      (λ y e f. (y, e, (cond_some y.is_open y.buffer buffer f).1))

  -- what is handed out to a new receiver stands in the history
  pub in_history_for : (s : State T U) (p : ℕ) (x : Publisher) (q n : ℕ) → contains (history_for s p x q) n ≡ true
      → contains x.history n ≡ true
  in_history_for s p x q n =
      cond_both (is_closed (s.channels p q 0)) [] x.history (λ ns. contains ns n ≡ true → contains x.history n ≡ true)
      (λ _ h. absurd (true≢false (sym h))) (λ _ h. h)

  -- it is no longer
  pub length-history_for_le : (s : State T U) (p : ℕ) (x : Publisher) (q : ℕ)
      → length (history_for s p x q) ≤ length x.history
  length-history_for_le s p x q = cond_both (is_closed (s.channels p q 0)) [] x.history
      (λ ns. length ns ≤ length x.history) (λ _. omega arith) (λ _. omega arith)

  module _ (s : State T U) (w : IsWellFormed s) (p : ℕ) (x : Publisher) (present : s.publishers p ≡ Some x) where
    abbrev Keeps : List (Option ℕ) → (ℕ → Mailbox) → Type 0
    Keeps ends boxes = SenderSideIsWellFormed s p x ends boxes

    -- of one side
    abbrev SideKeeps : SenderSide → Type 0
    SideKeeps side = SenderSideIsWellFormed s p x side.ends side.mailboxes

    -- It holds when the update begins.
    pub sender_side_begins : SenderSideIsWellFormed s p x x.ends (s.mailboxes p)
    sender_side_begins =
        let u : PublisherIsWellFormed s p x = w.publishers p x present in record {
          ends_bound = u.ends_bound;
          ends_apart = u.ends_apart;
          ends_known = u.ends_known;
          ends_stand = u.ends_stand;
          within = λ q. (w.mailboxes p q).within;
          room = λ q. (w.mailboxes p q).room;
          others = λ q. (w.mailboxes p q).others;
          others_room = λ q. (w.mailboxes p q).others_room;
          known = λ q h. ((w.mailboxes p q).known h).1;
          sender_end = λ q. (w.mailboxes p q).sender_end x present;
          borrows = λ q h. h;
          borrowed = λ q h. h;
          comes_from = λ q n h. inl h;
        }

    -- What waits for one receiver is lost; an end to it stays, or nothing of its mailbox is borrowed.
    waiting_lost : (ends ends' : List (Option ℕ)) (boxes : ℕ → Mailbox) (q : ℕ) → Keeps ends boxes
        → length ends' ≤ (s.config).max_subscribers → IsInjective ends'
        → ((i r : ℕ) → occupant ends' i ≡ Some r → occupant ends i ≡ Some r)
        → ((r : ℕ) → eqb r q ≡ false → LeadsTo ends r → LeadsTo ends' r)
        → (has_borrows (boxes q) ≡ true → LeadsTo ends' q)
        → Keeps ends' (put_at boxes q (waiting_dropped (boxes q)))
    waiting_lost ends ends' boxes q k bound apart before others left = let new : Mailbox = waiting_dropped (boxes q) in
        record {
          ends_bound = bound;
          ends_apart = apart;
          ends_known = λ r l. k.ends_known r (l.0, before l.0 r l.1);
          ends_stand = λ place r y h. k.ends_stand place r y (before place r h);
          within = λ r. at_each boxes q new (λ _. KeepsLimits s) r
              (λ _. IsWithin-dropped _ _ (boxes q) (k.within q)) (λ _. k.within r);
          room = λ r. at_each boxes q new (FitsBuffer s) r
              (λ _ y e. omega arith) (λ _. k.room r);
          others = λ r.
              at_each boxes q new (λ _. OthersKeepLimits s) r (λ _. OthersWithin-dropped _ _ (boxes q))
              (λ _. k.others r);
          others_room = λ r. at_each boxes q new (OthersFit s) r (λ _ y e. OthersWithin-dropped _ y.buffer (boxes q))
              (λ _. k.others_room r);
          known = λ r. at_each boxes q new (λ i box. has_numbers box ≡ true → i < s.next_port) r
              (λ _ h. k.known q (has_numbers-borrows (boxes q) (sym (has_numbers_dropped (boxes q)) ∙ h)))
              (λ _. k.known r);
          sender_end = λ r. at_each boxes q new (λ i box. has_numbers box ≡ true → LeadsTo ends' i) r
              (λ _ h. left (sym (has_numbers_dropped (boxes q)) ∙ h)) (λ other h. others r other (k.sender_end r h));
          borrows = λ r. at_each boxes q new (λ i box. has_borrows box ≡ true → has_borrows (s.mailboxes p i) ≡ true) r
              (λ _. k.borrows q) (λ _. k.borrows r);
          borrowed = λ r. at_each boxes q new (λ i box. has_borrows (s.mailboxes p i) ≡ true → has_borrows box ≡ true) r
              (λ _. k.borrowed q) (λ _. k.borrowed r);
          comes_from = λ r. at_each boxes q new (ComesFrom s p x) r
              (λ _ n h. k.comes_from q n (contains_in_dropped (boxes q) n h)) (λ _. k.comes_from r);
        }

    -- what waits for a receiver is lost, and its end stays
    pub dropped_keeps : (side : SenderSide) (place q : ℕ) → occupant side.ends place ≡ Some q → SideKeeps side
        → SideKeeps (dropped side q)
    dropped_keeps side place q e k =
        waiting_lost side.ends side.ends side.mailboxes q k k.ends_bound k.ends_apart (λ i r h. h) (λ r _ l. l)
        (λ _. (place, e))

    -- nothing is borrowed through an end at a place that another has, or nobody
    borrows_nothing : (side : SenderSide) (place q : ℕ) → SideKeeps side → occupant side.ends place ≡ Some q
        → (occupant s.subscriber_places place ≡ Some q → ⊥) → has_borrows (side.mailboxes q) ≡ true → ⊥
    borrows_nothing side place q k e apart h =
        let r : (y : Subscriber) × (s.subscribers q ≡ Some y) × ((contains y.expired p ≡ true) ⊎ LeadsTo y.ends p) =
        (w.mailboxes p q).receiver_end (k.borrows q h) in
        apart (subst (λ i. occupant s.subscriber_places i ≡ Some q) (k.ends_stand place q r.0 e r.1)
        (stands_at s w q r.0 r.1))

    -- the end at a place goes, where nothing is borrowed through it
    pub unused_keeps : (side : SenderSide) (place q : ℕ) → place < length s.subscriber_places
        → occupant side.ends place ≡ Some q
        → (has_borrows (side.mailboxes q) ≡ true → ⊥) → SideKeeps side → SideKeeps (disconnected side place (Some q))
    unused_keeps side place q low e unused k =
        waiting_lost side.ends (set_place side.ends place None) side.mailboxes q k
        (length-set_place_le side.ends place None (omega (arith, (w.subscriber_places).bound)) k.ends_bound)
        (injective_removed side.ends place k.ends_apart)
        (λ i r h. ⊎_elim (λ new. absurd (none-some r new.1)) (λ old. old.1) (found_set side.ends place None i r h))
        (λ r other l. (
          l.0,
          end_stays side.ends place l.0 r None
              (λ same. eqb-false r q other (same_Some r q (sym l.1 ∙ ap (occupant side.ends) same ∙ e))) l.1,
        ))
        (λ h. absurd (unused h))

    -- the end at a place goes, and nothing stands there afterwards
    disconnected_keeps : (side : SenderSide) (place : ℕ) (end : Option ℕ) → place < length s.subscriber_places
        → occupant side.ends place ≡ end
        → ((q : ℕ) → end ≡ Some q → occupant s.subscriber_places place ≡ Some q → ⊥)
        → SideKeeps side → SideKeeps (disconnected side place end)
    disconnected_keeps side place None low e apart k = k
    disconnected_keeps side place (Some q) low e apart k =
        unused_keeps side place q low e (borrows_nothing side place q k e (apart q refl)) k

    -- An end to the open subscriber at a place is made where none stood, and messages of the history wait there.
    pub connected_with_keeps : (ns : List ℕ) → IsOnce ns
        → ((n : ℕ) → contains ns n ≡ true → contains x.history n ≡ true)
        → (side : SenderSide) (place q buffer : ℕ) → place < length s.subscriber_places
        → occupant s.subscriber_places place ≡ Some q
        → receiving_buffer s q ≡ Some buffer → occupant side.ends place ≡ None
        → SideKeeps side → SideKeeps (connected ns side place q buffer)
    connected_with_keeps ns once of_history side place q buffer low at opened free k =
        let found : (y : Subscriber) × (s.subscribers q ≡ Some y) × (y.buffer ≡ buffer) = buffer_of s q buffer opened in
        let v : SubscriberIsWellFormed s q found.0 = w.subscribers q found.0 found.1 in
        let nowhere : (i : ℕ) → occupant side.ends i ≡ Some q → ⊥ = λ i h.
        let same : i ≡ place = sym (k.ends_stand i q found.0 h found.1) ∙ place_is s w q place found.0 found.1 at in
        none-some q (sym free ∙ ap (occupant side.ends) (sym same) ∙ h) in
        let empty : has_numbers (side.mailboxes q) ≡ false =
        false_from _ (λ h. let l : LeadsTo side.ends q = k.sender_end q h in nowhere l.0 l.1) in
        let new : Mailbox = with_waiting (last_n buffer ns) (side.mailboxes q) in
        record {
          ends_bound =
              length-set_place_le side.ends place (Some q) (omega (arith, (w.subscriber_places).bound)) k.ends_bound;
          ends_apart = injective_set side.ends place q k.ends_apart (λ i h. absurd (nowhere i h));
          ends_known = λ r l. ⊎_elim
              (λ here. subst (λ i. i < s.next_port) (same_Some q r here.1) v.is_known)
              (λ old. k.ends_known r (l.0, old.1))
              (found_set side.ends place (Some q) l.0 r l.1);
          ends_stand = λ i r y h e. ⊎_elim
              (λ here. place_is s w r i y e
              (subst (λ j. occupant s.subscriber_places j ≡ Some r) (sym here.0) (at ∙ here.1)))
              (λ old. k.ends_stand i r y old.1 e)
              (found_set side.ends place (Some q) i r h);
          within = λ r. at_each side.mailboxes q new (λ _. KeepsLimits s) r
              (λ _. IsWithin-history _ _ buffer ns (side.mailboxes q)
              (subst (λ b. b ≤ buffer_limit s.config) found.2 v.buffer_bound) once empty)
              (λ _. k.within r);
          room = λ r. at_each side.mailboxes q new (FitsBuffer s) r
              (λ _ y e. subst (λ b. waiting_count new ≤ b)
              (sym found.2 ∙ ap (λ (z : Subscriber). z.buffer) (same_Some found.0 y (sym found.1 ∙ e)))
              (waiting_count-history buffer ns (side.mailboxes q)))
              (λ _. k.room r);
          others = λ r. at_each side.mailboxes q new (λ _. OthersKeepLimits s) r (λ _. k.others q) (λ _. k.others r);
          others_room = λ r. at_each side.mailboxes q new (OthersFit s) r (λ _. k.others_room q) (λ _. k.others_room r);
          known = λ r. at_each side.mailboxes q new (λ i box. has_numbers box ≡ true → i < s.next_port) r
              (λ _ _. v.is_known) (λ _. k.known r);
          sender_end = λ r. at_each side.mailboxes q new
              (λ i box. has_numbers box ≡ true → LeadsTo (set_place side.ends place (Some q)) i) r
              (λ _ _. (place, end_set side.ends place (Some q)))
              (λ _ h. let l : LeadsTo side.ends r = k.sender_end r h in (
                l.0,
                end_stays side.ends place l.0 r (Some q)
                    (λ same. none-some r (sym free ∙ ap (occupant side.ends) (sym same) ∙ l.1)) l.1,
              ));
          borrows = λ r.
              at_each side.mailboxes q new (λ i box. has_borrows box ≡ true → has_borrows (s.mailboxes p i) ≡ true) r
              (λ _ h. k.borrows q (sym (has_borrows-history (last_n buffer ns) (side.mailboxes q)) ∙ h))
              (λ _. k.borrows r);
          borrowed = λ r.
              at_each side.mailboxes q new (λ i box. has_borrows (s.mailboxes p i) ≡ true → has_borrows box ≡ true) r
              (λ _ h. has_borrows-history (last_n buffer ns) (side.mailboxes q) ∙ k.borrowed q h) (λ _. k.borrowed r);
          comes_from = λ r. at_each side.mailboxes q new (ComesFrom s p x) r
              (λ _ n h. inr (of_history n (contains_in_history buffer ns (side.mailboxes q) n empty h)))
              (λ _. k.comes_from r);
        }

    -- those that are handed out to a new receiver
    connected_keeps : (side : SenderSide) (place q buffer : ℕ) → place < length s.subscriber_places
        → occupant s.subscriber_places place ≡ Some q
        → receiving_buffer s q ≡ Some buffer → occupant side.ends place ≡ None
        → SideKeeps side → SideKeeps (connected (history_for s p x q) side place q buffer)
    connected_keeps side place q buffer =
        let u : PublisherIsWellFormed s p x = w.publishers p x present in
        connected_with_keeps (history_for s p x q)
        (cond_both (is_closed (s.channels p q 0)) [] x.history IsOnce (λ _. tt) (λ _. u.history_once))
        (λ n h. in_history_for s p x q n h) side place q buffer

    module _ (environment : Environment) where
      abbrev Does : SenderAction → (place : ℕ) → SenderSide → SenderSide → Option ConnectionFailure → Type 0
      Does = Performs environment (s.config).service_id p x.degradation_handler (history_for s p x) (receiving_buffer s)
          (has_receiver_end s p)

      -- what is done at a place keeps it
      pub performed_keeps : (place : ℕ) (at end : Option ℕ) (side side' : SenderSide)
          (failure : Option ConnectionFailure) → place < length s.subscriber_places
          → occupant s.subscriber_places place ≡ at → occupant side.ends place ≡ end → SideKeeps side
          → Does (sender_action (receiving_buffer s) at end) place side side' failure → SideKeeps side'
      performed_keeps place None end side side' failure low a e k h =
          subst SideKeeps (sym h.0)
          (disconnected_keeps side place (occupant side.ends place) low refl (λ q _ b. none-some q (sym a ∙ b)) k)
      performed_keeps place (Some q) end side side' failure low a e k h =
          let gone : is_port end q ≡ false → (r : ℕ) → occupant side.ends place ≡ Some r
          → occupant s.subscriber_places place ≡ Some r → ⊥ = λ other r f b.
          is_port-false end q other (sym e ∙ f ∙ sym b ∙ a) in
          elim (receiving_buffer s q) as (λ o. receiving_buffer s q ≡ o
          → Does (elim o [
            | None ↦ cond (is_port end q) (Drop_waiting q) Disconnect
            | Some buffer ↦
                cond (is_port end q) Keep_end (Connect q buffer)
          ])
          place side side' failure
          → SideKeeps side') [
            | None ↦ λ _. elim (is_port end q) as (λ b.
                is_port end q ≡ b → Does (cond b (Drop_waiting q) Disconnect) place side side' failure
                → SideKeeps side') [
                  | true ↦
                      λ same h. subst SideKeeps (sym h.0) (dropped_keeps side place q (e ∙ is_port-true end q same) k)
                  | false ↦ λ other h. subst SideKeeps (sym h.0)
                      (disconnected_keeps side place (occupant side.ends place) low refl (gone other) k)
                ] refl
            | Some buffer ↦ λ opened. elim (is_port end q) as (λ b.
                is_port end q ≡ b → Does (cond b Keep_end (Connect q buffer)) place side side' failure
                → SideKeeps side') [
                  | true ↦ λ _ h. subst SideKeeps (sym h.0) k
                  | false ↦ λ other h.
                      let mid : SenderSide = disconnected side place (occupant side.ends place) in
                      let k' : SideKeeps mid =
                      disconnected_keeps side place (occupant side.ends place) low refl (gone other) k in
                      ⊎_elim
                      (λ made. subst SideKeeps (sym made.0)
                      (connected_keeps mid place q buffer low a opened
                      (nothing_after side place (occupant side.ends place) refl) k'))
                      (λ refused. subst SideKeeps (sym refused.3) k') h
                ] refl
          ] refl h

      -- It holds when the update ends.
      pub sender_side_keeps : (side : SenderSide) (failure : Option ConnectionFailure)
          → ForEachPlace (UpdateSenderPlace environment (s.config).service_id p x.degradation_handler
          (history_for s p x) (receiving_buffer s) (has_receiver_end s p))
          0 s.subscriber_places (sender_side s p x) side failure
          → SenderSideIsWellFormed s p x side.ends side.mailboxes
      sender_side_keeps side failure h =
          for_each_place_keeps
          (UpdateSenderPlace environment (s.config).service_id p x.degradation_handler (history_for s p x)
          (receiving_buffer s) (has_receiver_end s p))
          SideKeeps s.subscriber_places
          (λ i side side' failure low k h. performed_keeps i (occupant s.subscriber_places i)
          (occupant side.ends i) side side' failure low refl refl k h)
          (sender_side s p x) side failure sender_side_begins h
