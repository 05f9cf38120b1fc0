-- The mailboxes after a publisher left, as the machine has them.
use Rattle.std.proofs.Common.{◌≡◌, ℕ, Bool, true, false, cond, ◌&&◌, eqb, get_or, refl, ap, sym, subst, ◌∙◌, inl, inr}
use Rattle.std.proofs.lemmas.Bool.{cases_eq, eqb-true, eq-eqb, ne_eqb}
use Rattle.std.specs.declared.option.Option.{Option}
use Rattle.std.specs.declared.option.Option.TheVariants.{None, Some}
use Rattle.std.specs.Option.{option_map, option_map_or}
use Rattle.slab.specs.Slab.{Slab, get}
use Rattle.iox2_connections.specs.Link.{Link}
use Rattle.iox2_machine.specs.machine.Mailbox.{Mailbox, empty_mailbox, waiting_dropped}
use Rattle.iox2_machine.specs.machine.Places.{occupant, is_port}
use Rattle.iox2_machine.specs.machine.Ports.{mailbox_after_publisher, publisher_gone}
use Rattle.iox2_machine.specs.machine.Records.{Publisher, Subscriber}
use Rattle.iox2_machine.specs.machine.State.{State}
use Rattle.iox2_connections.specs.LookUp.{look_up}
use Rattle.iox2_connections.specs.Finds.{IsReceivers}
use Rattle.iox2_connections.specs.Mailboxes.{is_between, mailbox_of, mailbox_if_any, mailboxes_of, publisher_of_key}
use Rattle.iox2_connections.proofs.LookUps.{look_up-there, look_up-none}
use Rattle.iox2_connections.proofs.MailboxChanges.{both-true, is_between-own, mailbox-there}
use Rattle.iox2_connections.specs.Leaves.{left_link}
use Rattle.iox2_domain.specs.Ports.{PublisherFields, SubscriberFields}
use Rattle.iox2_domain.specs.Kept.{Named, state_of, is_named}
use Rattle.iox2_domain.specs.Fields.{Fields, kept_of, publisher_of, subscriber_of, number_in_slot}
use Rattle.iox2_domain.specs.Invariant.{is_subscriber, details_of, IsDomain}
use Rattle.iox2_domain.proofs.lemmas.containers.LookUps.{look_up-map, map-at}
use Rattle.iox2_domain.proofs.lemmas.fields.Standing.{occupant-receiver_ends, some_is, publisher-place}
use Rattle.iox2_domain.proofs.lemmas.fields.Views.{mailboxes-are}
use Rattle.iox2_domain.specs.Closes.{joins, is_awaited, LeavesConnections}
use Rattle.iox2_steps.proofs.closes.LeftConnections.{left-boxes, left-boxes_none, left-boxes_others}
use mathlib.Core.Path.{fun_ext}

module _ {T U : Type 0} (f : Fields T U) (sound : IsDomain f) (i : ℕ) (x : PublisherFields)
    (here : get_or f.publishers i None ≡ Some x) where
  abbrev before : State T U
  before = state_of (kept_of f)

  -- the publisher to the machine
  abbrev pub leaver : Publisher
  leaver = (publisher_of f.books f.connections x).port

  abbrev number : ℕ → ℕ
  number = number_in_slot f.books x.id

  -- ---- who awaits what waits

  abbrev machine_awaits : Subscriber → Bool
  machine_awaits y = y.is_open && is_port (occupant y.ends x.place) x.id

  -- the key leads to the connection where the subscriber's end leads to the publisher
  end-is : (j key : ℕ) (y : SubscriberFields) (c : Link) → get_or f.subscribers j None ≡ Some y
      → get f.connections key ≡ Some c → c.home.publisher ≡ x.id → y.id ≡ c.home.subscriber
      → (o : Option ℕ) → get_or y.keys i None ≡ o → is_port o key ≡ is_port (publisher_of_key f.connections o) x.id
  end-is j key y c at_y at_c mine its None e = refl
  end-is j key y c at_y at_c mine its (Some k) e =
      let own = some_is (IsReceivers y.id (f.config).subscriber_max_borrowed_samples) (get f.connections k)
      ((sound.parts.linked.receivers j y at_y).at i k e) in
      by own.0 own.1 own.2
      ∙ ap (λ (o : Option Link). is_port (option_map (λ (d : Link). d.home.publisher) o) x.id) (sym own.1)
    where
      by : (d : Link) → get f.connections k ≡ Some d → IsReceivers y.id (f.config).subscriber_max_borrowed_samples d
          → eqb k key ≡ eqb d.home.publisher x.id
      by d at_d own = elim (cases_eq d.home.publisher x.id) [
        | inl same ↦
            let one : k ≡ key = (sound.parts.apart.one x.id c.home.subscriber).one k key d c at_d at_c
            (is_between-own x.id c.home.subscriber d same (own.subscriber ∙ its))
            (is_between-own x.id c.home.subscriber c mine refl) in
            eq-eqb k key one ∙ sym (eq-eqb d.home.publisher x.id same)
        | inr away ↦ ne_eqb k key (λ one. let is : Some d ≡ Some c = sym at_d ∙ ap (get f.connections) one ∙ at_c in
            let same : d ≡ c = cc in away (ap (λ (e : Link). e.home.publisher) same ∙ mine))
            ∙ sym (ne_eqb d.home.publisher x.id away)
      ]

  -- the machine awaits what waits where the connection's subscriber does
  awaited-is : (key : ℕ) (c : Link) → get f.connections key ≡ Some c → c.home.publisher ≡ x.id
      → option_map_or machine_awaits (before.subscribers c.home.subscriber) false ≡ is_awaited f.subscribers key c
  awaited-is key c at_c mine =
      ap (λ (o : Option (Named Subscriber)).
      option_map_or machine_awaits (option_map (λ (z : Named Subscriber). z.port) o) false)
      (look_up-map (is_named c.home.subscriber) (subscriber_of f.books f.connections) f.subscribers)
      ∙ by (look_up (is_subscriber c.home.subscriber) f.subscribers) refl
    where
      seen : Option SubscriberFields → Bool
      seen o = option_map_or machine_awaits
          (option_map (λ (z : Named Subscriber). z.port) (option_map (subscriber_of f.books f.connections) o)) false

      place : c.home.publisher_place ≡ i
      place = sym (sound.parts.linked.knows_publishers key i c x at_c here (sym mine))

      nobody : look_up (is_subscriber c.home.subscriber) f.subscribers ≡ None → (o : Option SubscriberFields)
          → get_or f.subscribers c.home.subscriber_place None ≡ o
          → false ≡ option_map_or (joins key c) o false
      nobody none None e = refl
      nobody none (Some y) e =
          let no : eqb y.id c.home.subscriber ≡ false =
          look_up-none (is_subscriber c.home.subscriber) f.subscribers none c.home.subscriber_place y e in
          sym (ap (λ (t : Bool). t && (y.is_open && is_port (get_or y.keys c.home.publisher_place None) key)) no)

      by : (o : Option SubscriberFields) → look_up (is_subscriber c.home.subscriber) f.subscribers ≡ o
          → seen o ≡ is_awaited f.subscribers key c
      by None e = nobody e (get_or f.subscribers c.home.subscriber_place None) refl
      by (Some y) e =
          let there = look_up-there (is_subscriber c.home.subscriber) f.subscribers y e in
          let its : y.id ≡ c.home.subscriber = eqb-true y.id c.home.subscriber there.2 in
          let stands : there.0 ≡ c.home.subscriber_place =
          (sound.parts.linked.knows.at key there.0 c (details_of y) at_c
          (map-at details_of f.subscribers there.0 ∙ ap (option_map details_of) there.1) its).0 in
          let end : is_port (occupant (subscriber_of f.books f.connections y).port.ends x.place) x.id ≡ is_port
          (get_or y.keys c.home.publisher_place None) key =
          ap (λ (n : ℕ). is_port (occupant (subscriber_of f.books f.connections y).port.ends n) x.id)
          (publisher-place f sound.parts sound.well_formed i x here)
          ∙ ap (λ (o : Option ℕ). is_port o x.id) (occupant-receiver_ends f.connections y.keys i)
          ∙ sym (end-is there.0 key y c there.1 at_c mine its (get_or y.keys i None) refl)
          ∙ ap (λ (n : ℕ). is_port (get_or y.keys n None) key) (sym place) in
          ap (λ (t : Bool). y.is_open && t) end
          ∙ ap (λ (t : Bool). t && (y.is_open && is_port (get_or y.keys c.home.publisher_place None) key)) (sym there.2)
          ∙ ap (λ (o : Option SubscriberFields). option_map_or (joins key c) o false)
          (sym (sym (ap (λ (n : ℕ). get_or f.subscribers n None) stands) ∙ there.1))

  -- ---- the mailboxes

  -- what becomes of the mailbox of one of its connections
  pub mailbox-left : (key : ℕ) (c : Link) → get f.connections key ≡ Some c → c.home.publisher ≡ x.id
      → mailbox_after_publisher before x.id leaver c.home.subscriber ≡ mailbox_of number
      (left_link (is_awaited f.subscribers key c) c)
  mailbox-left key c at_c mine =
      ap (λ (box : Mailbox). cond (option_map_or machine_awaits (before.subscribers c.home.subscriber) false) box
      (waiting_dropped box)) box
      ∙ ap (λ (t : Bool). cond t (mailbox_of number c) (waiting_dropped (mailbox_of number c)))
      (awaited-is key c at_c mine)
      ∙ by (is_awaited f.subscribers key c)
    where
      box : before.mailboxes x.id c.home.subscriber ≡ mailbox_of number c
      box = mailboxes-are f x.id c.home.subscriber ∙ mailbox-there
          (number_in_slot f.books) f.connections key x.id c.home.subscriber c sound.parts.apart at_c mine refl

      by : (t : Bool)
          → cond t (mailbox_of number c) (waiting_dropped (mailbox_of number c)) ≡ mailbox_of number (left_link t c)
      by true = refl
      by false = refl

  module _ (new : Slab Link) (left : LeavesConnections x.id f.subscribers f.connections new) where
    -- the machine's mailboxes
    pub mailboxes-left : mailboxes_of (number_in_slot f.books) new ≡ (publisher_gone before x.id leaver).mailboxes
    mailboxes-left = fun_ext (λ p. fun_ext (λ q. elim (cases_eq p x.id) [
      | inl same ↦ rw (same, eq-eqb x.id x.id refl) (own q (look_up (is_between x.id q) f.connections.slots) refl)
      | inr away ↦
          left-boxes_others x.id f.subscribers f.connections new left sound.parts.apart
          (number_in_slot f.books) p q away
          ∙ sym (mailboxes-are f p q)
          ∙ ap (λ (t : Bool). cond t (mailbox_after_publisher before x.id leaver) (before.mailboxes p) q)
          (sym (ne_eqb p x.id away))
    ])) where
      nothing : (t : Bool) → empty_mailbox ≡ cond t empty_mailbox (waiting_dropped empty_mailbox)
      nothing true = refl
      nothing false = refl

      own : (q : ℕ) (o : Option Link) → look_up (is_between x.id q) f.connections.slots ≡ o
          → mailboxes_of (number_in_slot f.books) new x.id q ≡ mailbox_after_publisher before x.id leaver q
      own q None e =
          let was : before.mailboxes x.id q ≡ empty_mailbox = mailboxes-are f x.id q ∙ ap (mailbox_if_any number) e in
          left-boxes_none x.id f.subscribers f.connections new left sound.parts.apart (number_in_slot f.books) q e
          ∙ nothing (option_map_or machine_awaits (before.subscribers q) false)
          ∙ ap (λ (box : Mailbox).
          cond (option_map_or machine_awaits (before.subscribers q) false) box (waiting_dropped box)) (sym was)
      own q (Some c) e =
          let there = look_up-there (is_between x.id q) f.connections.slots c e in
          let both = both-true (eqb c.home.publisher x.id) (eqb c.home.subscriber q) there.2 in
          let mine : c.home.publisher ≡ x.id = eqb-true c.home.publisher x.id both.0 in
          subst (λ (s : ℕ). mailboxes_of (number_in_slot f.books) new x.id s
          ≡ mailbox_after_publisher before x.id leaver s) (eqb-true c.home.subscriber q both.1)
          (left-boxes x.id f.subscribers f.connections new left sound.parts.apart
          (number_in_slot f.books) there.0 c there.1 mine ∙ sym (mailbox-left there.0 c there.1 mine))
