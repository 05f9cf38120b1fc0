-- What the calls on a publisher's end at a key come to.
use Rattle.std.proofs.Common.{◌≡◌, ◌<◌, ℕ, zero, suc, false, List, [], ◌∷◌, length, get_or, slice_set, refl, ap, sym}
use Rattle.std.proofs.Common.{subst, ◌∙◌}
use Rattle.std.specs.declared.option.Option.{Option}
use Rattle.std.specs.declared.option.Option.TheVariants.{None, Some}
use Rattle.std.specs.Option.{option_map, IsSomeAnd}
use Rattle.slab.specs.Slab.{Slab, get, with_value}
use Rattle.iox2_connections.specs.Link.{Link}
use Rattle.iox2_slots.specs.SlotBook.{Book}
use Rattle.iox2_machine.specs.machine.Places.{set_place}
use Rattle.iox2_connections.specs.Counters.{with_counters}
use Rattle.iox2_connections.specs.Drops.{DropsAll, RemovesConnection}
use Rattle.iox2_domain.specs.Ports.{PublisherFields}
use Rattle.iox2_domain.specs.Fields.{Fields}
use Rattle.iox2_domain.specs.Invariant.{IsDomain, ReceiverHas}
use Rattle.iox2_domain.specs.Updates.{changed_at, without_sender_key}
use Rattle.iox2_domain.specs.Reaches.{Reaches}
use Rattle.iox2_domain.specs.Drops.{with_waiting_dropped, HasEnd, LosesWaiting, LosesSenderEnd, StandsElsewhere}
use Rattle.iox2_steps.proofs.updates.WaitingDropped.{dropped_fields, dropped-reaches, dropped-well, end-own}
use Rattle.iox2_steps.proofs.updates.SenderDisconnects.{loses-end}

-- a key that is there is taken away where it stands
pub cleared-place : (keys : List (Option ℕ)) (place key : ℕ) → get_or keys place None ≡ Some key
    → slice_set keys place None ≡ set_place keys place None
cleared-place [] zero key e = absurd cc
cleared-place [] (suc place) key e = absurd cc
cleared-place (k ∷ ks) zero key e = refl
cleared-place (k ∷ ks) (suc place) key e = ap (λ zs. k ∷ zs) (cleared-place ks place key e)

module _ {T U : Type 0} (before f : Fields T U) (same : f ≡ before) (agrees : IsDomain before) (i j key : ℕ)
    (end : HasEnd before i j key)
    (x : PublisherFields) (here : get_or f.publishers i None ≡ Some x) where
  sound : IsDomain f
  sound = subst (IsDomain {T = T} {U = U}) (sym same) agrees

  end-is : end.publisher ≡ x
  end-is = let both : Some end.publisher ≡ Some x = sym end.stands
      ∙ sym (ap (λ (h : Fields T U). get_or h.publishers i None) same) ∙ here in cc

  has : get_or x.keys j None ≡ Some key
  has = sym (ap (λ (z : PublisherFields). get_or z.keys j None) end-is) ∙ end.has

  settled : x.is_due ≡ false
  settled = sym (ap (λ (z : PublisherFields). z.is_due) end-is) ∙ end.settled

  free : x.blocked ≡ None
  free = sym (ap (λ (z : PublisherFields). z.blocked) end-is) ∙ end.unblocked

  there : get f.connections key ≡ Some end.link
  there = ap (λ (h : Fields T U). get h.connections key) same ∙ end.connected

  -- the connection is the publisher's
  pub end-its : IsSomeAnd (get f.connections key) (λ (c : Link). c.home.publisher ≡ x.id)
  end-its = rw there ((end-own f sound i j x here settled key has end.link there).publisher)

  publisher-is : (z : PublisherFields) → get_or before.publishers i None ≡ Some z → x ≡ z
  publisher-is z at =
      let both : Some x ≡ Some z = sym here ∙ ap (λ (h : Fields T U). get_or h.publishers i None) same ∙ at in cc

  module _ (b : Book) (at : get f.books x.book ≡ Some b) (b1 : Book) (is1 : b1 ≡ with_counters b b1.holders) where
    -- what waited is lost
    pub waiting-lost : (new : Slab Link) → DropsAll x.id b.holders f.connections key b1.holders new
        → (z : PublisherFields) → get_or before.publishers i None ≡ Some z → (c : Link)
        → get before.connections key ≡ Some c
        → LosesWaiting before z c (record f { connections = new; books = with_value f.books x.book b1 })
    waiting-lost new drops z at_z c at_c =
        subst (λ (y : PublisherFields). LosesWaiting before y c after) (publisher-is z at_z)
        (subst (λ (h : Fields T U). LosesWaiting h x c after) same
        (subst (λ (d : Link). LosesWaiting f x d after) to-c
        (subst (λ (d : Book). LosesWaiting f x drops.link
        (record f { connections = new; books = with_value f.books x.book d })) (sym is1) (record {
          agrees = reached.agrees;
          fields = refl;
          homes = drops.recounts.homes;
          state = reached.state;
          entries = reached.entries;
          places = reached.places;
        }))))
      where
        after : Fields T U
        after = record f { connections = new; books = with_value f.books x.book b1 }

        to-c : drops.link ≡ c
        to-c = let both : Some drops.link ≡ Some c = sym drops.stood
            ∙ ap (λ (h : Fields T U). get h.connections key) same ∙ at_c in cc

        reached : Reaches f (dropped_fields f sound i x here b at key b1.holders new drops)
            (with_waiting_dropped f x drops.link)
        reached = dropped-reaches f sound i x here b at key b1.holders new drops
            (dropped-well f sound i j x here settled key has drops.link drops.stood free)

    -- the end is gone
    pub end-lost : j < length before.subscribers
        → ((c : Link) → get before.connections key ≡ Some c → ReceiverHas before.subscribers key c → ⊥)
        → ((c : Link) → get before.connections key ≡ Some c → StandsElsewhere before.subscribers j c.home.subscriber)
        → (new : Slab Link) → RemovesConnection x.id b.holders f.connections key b1.holders new
        → (z : PublisherFields) → get_or before.publishers i None ≡ Some z
        → LosesSenderEnd before i j z
        (record f {
          publishers = changed_at (without_sender_key j) f.publishers i;
          connections = new;
          books = with_value f.books x.book b1;
        })
    end-lost low alone elsewhere new removes z at_z =
        subst (λ (y : PublisherFields). LosesSenderEnd before i j y after) (publisher-is z at_z)
        (subst (λ (h : Fields T U). LosesSenderEnd h i j x after) same
        (subst (λ (xs : List (Option PublisherFields)). LosesSenderEnd f i j x
        (record f { publishers = xs; connections = new; books = with_value f.books x.book b1 })) (sym publishers-are)
        (subst (λ (d : Book). LosesSenderEnd f i j x
        (record f {
          publishers = slice_set f.publishers i (Some (record x { keys = set_place x.keys j None }));
          connections = new;
          books = with_value f.books x.book d;
        })) (sym is1)
        (loses-end f sound i j x here settled free (subst (λ (h : Fields T U). j < length h.subscribers) (sym same) low)
        key has b at b1.holders new removes alone-f elsewhere-f))))
      where
        after : Fields T U
        after = record f {
          publishers = changed_at (without_sender_key j) f.publishers i;
          connections = new;
          books = with_value f.books x.book b1;
        }

        publishers-are : changed_at (without_sender_key j) f.publishers i ≡ slice_set f.publishers i
            (Some (record x { keys = set_place x.keys j None }))
        publishers-are =
            ap (λ o. slice_set f.publishers i (option_map (without_sender_key j) o)) here
            ∙ ap (λ (keys : List (Option ℕ)). slice_set f.publishers i (Some (record x { keys = keys })))
            (cleared-place x.keys j key has)

        alone-f : ReceiverHas f.subscribers key (removes.drops).link → ⊥
        alone-f = subst (λ (h : Fields T U). ReceiverHas h.subscribers key (removes.drops).link → ⊥) (sym same)
            (alone (removes.drops).link
            (sym (ap (λ (h : Fields T U). get h.connections key) same) ∙ (removes.drops).stood))

        elsewhere-f : StandsElsewhere f.subscribers j (removes.drops).link.home.subscriber
        elsewhere-f =
            subst (λ (h : Fields T U). StandsElsewhere h.subscribers j (removes.drops).link.home.subscriber) (sym same)
            (elsewhere (removes.drops).link
            (sym (ap (λ (h : Fields T U). get h.connections key) same) ∙ (removes.drops).stood))
