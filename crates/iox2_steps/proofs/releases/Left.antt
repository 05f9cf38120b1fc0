-- A subscriber leaves, and with it the connections that it alone has.
use Rattle.std.proofs.Common.{◌≡◌, ◌≢◌, ℕ, List, false, get_or, slice_set, Option, None, Some, refl, ap, sym, subst}
use Rattle.std.proofs.Common.{◌∙◌, inl, inr, ◌⊎◌}
use Rattle.std.proofs.lemmas.Bool.{cases_eq, true≢false}
use Rattle.std.proofs.lemmas.List.{get_or-set_same, get_or-set_other}
use Rattle.slab.specs.Slab.{Slab, get}
use Rattle.iox2_connections.specs.Link.{Link, load}
use Rattle.iox2_machine.specs.machine.Numbers.{put_at}
use Rattle.iox2_machine.specs.machine.Places.{vacated}
use Rattle.iox2_machine.specs.machine.Releases.{place_freed}
use Rattle.iox2_machine.specs.machine.State.{State}
use Rattle.iox2_connections.proofs.MailboxChanges.{within_if_some}
use Rattle.iox2_domain.specs.Departures.{IsUnshared, KnowsKey, DropsUnshared}
use Rattle.iox2_domain.specs.Fields.{Fields, kept_of}
use Rattle.iox2_domain.specs.Invariant.{HasOpenReceiver, HasParts, ReceiverHas, SenderHas}
use Rattle.iox2_domain.specs.Kept.{state_of}
use Rattle.iox2_domain.specs.Midway.{IsMidway, with_channels_of}
use Rattle.iox2_domain.specs.Ports.{SubscriberFields}
use Rattle.iox2_steps.proofs.creations.PublishersDue.{with_publishers_due, publishers_due-midway}
use Rattle.iox2_domain.proofs.lemmas.fields.ForgetfulSubscribers.{its-place, same-receiver, subscribers-forget}
use Rattle.iox2_domain.proofs.lemmas.fields.ForgottenKeys.{Forgets, IsForgotten}
use Rattle.iox2_domain.proofs.lemmas.fields.ForgottenStates.{forgotten-is, forgotten-midway}
use Rattle.iox2_domain.proofs.lemmas.fields.LostConnections.{unloaded}
use Rattle.iox2_domain.proofs.lemmas.fields.OwnKeys.{known}
use Rattle.iox2_domain.proofs.lemmas.fields.OpenReceivers.{open-still}
use Rattle.iox2_domain.proofs.lemmas.fields.SubscriberSet.{subscriber_gone-is}

module _ {T U : Type 0} (f : Fields T U) (parts : HasParts f) (j : ℕ) (y : SubscriberFields)
    (at_y : get_or f.subscribers j None ≡ Some y)
    (new : Slab Link) (drops : DropsUnshared f.publishers y.id (KnowsKey y) f.connections new)
    (idle : (key : ℕ) (c : Link) → get f.connections key ≡ Some c → IsUnshared f.publishers y.id key c → load c ≡ 0)
    (closed : y.is_open ≡ false) where
  abbrev subscribers : List (Option SubscriberFields)
  subscribers = slice_set f.subscribers j None

  abbrev emptied : Fields T U
  emptied = record f { subscribers = subscribers; connections = new }

  -- the fields without the subscriber, with each publisher due
  abbrev pub left : Fields T U
  left = with_publishers_due emptied

  -- ---- who stands there

  nobody : get_or subscribers j None ≡ None
  nobody = get_or-set_same f.subscribers j None None (within_if_some f.subscribers j y at_y)

  others : (k : ℕ) → k ≢ j → get_or subscribers k None ≡ get_or f.subscribers k None
  others k away = get_or-set_other f.subscribers j k None None away

  stood : (k : ℕ) (z : SubscriberFields) → get_or subscribers k None ≡ Some z
      → (k ≢ j) × (get_or f.subscribers k None ≡ Some z)
  stood k z at_z =
      let away : k ≢ j = (λ here. let no : None ≡ Some z = sym nobody
      ∙ sym (ap (λ (n : ℕ). get_or subscribers n None) here) ∙ at_z in absurd cc) in
      (away, sym (others k away) ∙ at_z)

  -- ---- connections

  receiver-gone : (k : ℕ) (d : Link) → d.home.subscriber ≡ y.id → ReceiverHas subscribers k d → ⊥
  receiver-gone k d its has =
      let there = stood d.home.subscriber_place has.subscriber has.stands in
      there.0 (its-place f parts j y at_y d.home.subscriber_place has.subscriber there.1 (has.is_its ∙ its))

  gone : (k : ℕ) (d : Link) → get f.connections k ≡ Some d → get new k ≡ None → IsForgotten f.publishers subscribers k d
  gone k d at_d none = elim (drops.others k d at_d) [
    | inl there ↦ absurd (let no : None ≡ Some d = sym none ∙ there in cc)
    | inr unshared ↦ record {
      no_sender = unshared.unshared;
      no_receiver = receiver-gone k d unshared.subscriber_is;
      empty = unloaded d (idle k d at_d unshared);
    }
  ]

  still : (k : ℕ) (d : Link) → get new k ≡ Some d → ReceiverHas f.subscribers k d
      → SenderHas f.publishers k d ⊎ ReceiverHas subscribers k d
  still k d at_d has = elim (cases_eq d.home.subscriber_place j) [
    | inl here ↦
        let one : Some has.subscriber ≡ Some y =
        sym has.stands ∙ ap (λ (n : ℕ). get_or f.subscribers n None) here ∙ at_y in
        let is : has.subscriber ≡ y = cc in
        inl (drops.done k d (subst (λ (w : SubscriberFields). KnowsKey w k) is
        (known has.subscriber d.home.publisher_place k has.has)) at_d
        (sym has.is_its ∙ ap (λ (w : SubscriberFields). w.id) is))
    | inr away ↦ inr (record {
      subscriber = has.subscriber;
      stands = others d.home.subscriber_place away ∙ has.stands;
      is_its = has.is_its;
      has = has.has;
    })
  ]

  -- an open subscriber is another one
  open-elsewhere : (d : Link) → HasOpenReceiver f.subscribers d → HasOpenReceiver subscribers d
  open-elsewhere d has = open-still f.subscribers subscribers d
      (λ z at_z. (z, others d.home.subscriber_place away ∙ at_z, refl, refl)) has where
        away : d.home.subscriber_place ≢ j
        away here =
            let one : Some has.subscriber ≡ Some y =
            sym has.stands ∙ ap (λ (n : ℕ). get_or f.subscribers n None) here ∙ at_y in
            let is : has.subscriber ≡ y = cc in
            true≢false (sym has.is_open ∙ ap (λ (z : SubscriberFields). z.is_open) is ∙ closed)

  emptying : Forgets f f.publishers subscribers new
  emptying = subscribers-forget f parts subscribers new (record {
    receivers = λ k z at_z. (z, (stood k z at_z).1, same-receiver z);
    fewer = drops.kept;
    gone = gone;
    still = still;
    opens = λ k d at_d is has. open-elsewhere d has;
  })

  -- ---- midway

  pub left-midway : (old : Fields T U) (s : State T U) (book : ℕ) → IsMidway old f s book
      → IsMidway old left (place_freed s y.id) book
  left-midway old s book midway =
      publishers_due-midway emptied old (out s) book
      (forgotten-midway f parts subscribers new emptying old s (out s) book
      (emptied-is ∙ ap (λ (t : State T U). with_channels_of emptied (out t)) midway.state) midway)
    where
      -- the machine's subscriber is out
      out : State T U → State T U
      out t = record t
          { subscribers = put_at t.subscribers y.id None; subscriber_places = vacated y.id t.subscriber_places }

      emptied-is : state_of (kept_of emptied) ≡ with_channels_of emptied (out (state_of (kept_of f)))
      emptied-is = forgotten-is f parts f.publishers subscribers new emptying
          ∙ ap (with_channels_of emptied) (subscriber_gone-is f j y at_y parts.subscriber_ids)
