-- What each change of a mailbox keeps.
use Rattle.std.proofs.Common.{◌≡◌, ℕ, Bool, zero, suc, ◌+◌, ◌*◌, ◌≤◌, ◌<◌, true, false, cond, List, [], ◌∷◌, ◌++◌}
use Rattle.std.proofs.Common.{length, drop, not, ◌&&◌, refl, sym, ap, subst, ◌∙◌, arith, eqb, ltb, ◌⊎◌, inl, inr}
use Rattle.std.proofs.Common.{⊎_elim}
use Rattle.std.proofs.lemmas.Bool.{true≢false, cond_both, ltb-true, and_parts, eq-eqb, eqb-true, eqb-false, or_left}
use Rattle.std.proofs.lemmas.Bool.{lt-ltb, le-ltb}
use Rattle.std.proofs.lemmas.List.{length-append, length-drop, append_assoc}
use Rattle.iox2_laws.proofs.NumberLemmas.{contains_in_append, contains_left, contains_right, absent_left, absent_right}
use Rattle.iox2_laws.proofs.NumberLemmas.{contains_one, contains_later, contains_in_drop, contains_in_last_n}
use Rattle.iox2_laws.proofs.NumberLemmas.{contains_in_without, absent_from}
use Rattle.iox2_laws.proofs.NumberLemmas.{length-last_n, length-without_le, IsOnce-drop, IsOnce-last_n, IsOnce-push}
use Rattle.iox2_laws.proofs.NumberLemmas.{IsOnce-left, IsOnce-right, IsOnce-apart, IsOnce-append, IsOnce-without}
use Rattle.iox2_machine.specs.machine.Numbers.{contains, without, is_nil, last_n, IsOnce}
use Rattle.iox2_laws.proofs.ChannelNumbers.{numbers, numbers_of-same, numbers_of-other, contains_in_part, IsOnce-part}
use Rattle.iox2_laws.proofs.ChannelNumbers.{contains_in_replaced, IsOnce-replaced, length-part_le, length-numbers}
use Rattle.iox2_laws.proofs.ChannelNumbers.{length-channels}
use Rattle.iox2_machine.specs.machine.Mailbox.{ChannelNumber, numbers_of, with_numbers_of, other_numbers, waiting_in}
use Rattle.iox2_machine.specs.machine.Mailbox.{with_waiting_in, has_room, with_appended, other_room, OthersWithin}
use Rattle.iox2_machine.specs.machine.Mailbox.{Mailbox, empty_mailbox, numbers_in, has_numbers, has_borrows}
use Rattle.iox2_machine.specs.machine.Mailbox.{is_borrowed, has_waiting, has_data, can_receive, waiting_count}
use Rattle.iox2_machine.specs.machine.Mailbox.{with_waiting, waiting_dropped, BorrowsFirst, with_released, IsWithin}

-- ---- numbers and their presence

-- a mailbox with a number has numbers
pub has_numbers-contains : (box : Mailbox) (n : ℕ) → contains (numbers_in box) n ≡ true → has_numbers box ≡ true
has_numbers-contains box n h = at (other_numbers box) box.waiting box.borrowed h
  where
    at : (os ws bs : List ℕ) → contains (os ++ (ws ++ bs)) n ≡ true → not (is_nil os && (is_nil ws && is_nil bs)) ≡ true
    at [] [] [] h = h
    at [] [] (b ∷ bs) h = refl
    at [] (w ∷ ws) bs h = refl
    at (o ∷ os) ws bs h = refl

-- a mailbox with a borrowed number has numbers
pub has_numbers-borrows : (box : Mailbox) → has_borrows box ≡ true → has_numbers box ≡ true
has_numbers-borrows box h = at (other_numbers box) box.waiting box.borrowed h
  where
    at : (os ws bs : List ℕ) → not (is_nil bs) ≡ true → not (is_nil os && (is_nil ws && is_nil bs)) ≡ true
    at [] [] bs h = h
    at [] (w ∷ ws) bs h = refl
    at (o ∷ os) ws bs h = refl

-- a mailbox in which a number waits has numbers
pub has_numbers-data : (box : Mailbox) → has_data box ≡ true → has_numbers box ≡ true
has_numbers-data box h = at (other_numbers box) box.waiting box.borrowed h
  where
    at : (os ws bs : List ℕ) → not (is_nil ws) ≡ true → not (is_nil os && (is_nil ws && is_nil bs)) ≡ true
    at os [] bs h = absurd (true≢false (sym h))
    at [] (w ∷ ws) bs h = refl
    at (o ∷ os) (w ∷ ws) bs h = refl

-- and so has one in which a number waits in whatever channel
pub has_numbers-waiting : (box : Mailbox) → has_waiting box ≡ true → has_numbers box ≡ true
has_numbers-waiting box h = at (other_numbers box) box.waiting box.borrowed h
  where
    at : (os ws bs : List ℕ) → not (is_nil os && is_nil ws) ≡ true → not (is_nil os && (is_nil ws && is_nil bs)) ≡ true
    at [] [] bs h = absurd (true≢false (sym h))
    at [] (w ∷ ws) bs h = refl
    at (o ∷ os) ws bs h = refl

-- what waits in channel 0 waits
pub has_waiting-data : (box : Mailbox) → has_data box ≡ true → has_waiting box ≡ true
has_waiting-data box h = at (other_numbers box) box.waiting h
  where
    at : (os ws : List ℕ) → not (is_nil ws) ≡ true → not (is_nil os && is_nil ws) ≡ true
    at os [] h = absurd (true≢false (sym h))
    at [] (w ∷ ws) h = refl
    at (o ∷ os) (w ∷ ws) h = refl

-- without borrowed messages only waiting ones are left
pub has_numbers_dropped : (box : Mailbox) → has_numbers (waiting_dropped box) ≡ has_borrows box
has_numbers_dropped box = refl

-- where a number is borrowed, something is
pub has_borrows-is_borrowed : (n : ℕ) (box : Mailbox) → is_borrowed n box ≡ true → has_borrows box ≡ true
has_borrows-is_borrowed n box h = at box.borrowed h
  where
    at : (bs : List ℕ) → contains bs n ≡ true → not (is_nil bs) ≡ true
    at [] h = h
    at (b ∷ bs) h = refl

-- ---- the bounds

-- nothing waits and nothing is borrowed in a mailbox in which nothing is
pub nothing_anywhere : (box : Mailbox) → has_numbers box ≡ false
    → (other_numbers box ≡ []) × (box.waiting ≡ []) × (box.borrowed ≡ [])
nothing_anywhere box h = at (other_numbers box) box.waiting box.borrowed h
  where
    at : (os ws bs : List ℕ) → not (is_nil os && (is_nil ws && is_nil bs)) ≡ false → (os ≡ []) × (ws ≡ []) × (bs ≡ [])
    at [] [] [] h = (refl, refl, refl)
    at [] [] (b ∷ bs) h = absurd (true≢false h)
    at [] (w ∷ ws) bs h = absurd (true≢false h)
    at (o ∷ os) ws bs h = absurd (true≢false h)

-- so nothing is borrowed there
pub nothing_borrowed : (box : Mailbox) → has_numbers box ≡ false → box.borrowed ≡ []
nothing_borrowed box h = (nothing_anywhere box h).2

-- an empty mailbox is within any bounds
pub IsWithin-empty : (buffer borrow_limit : ℕ) → IsWithin buffer borrow_limit empty_mailbox
IsWithin-empty buffer borrow_limit = record { waiting = omega arith; borrowed = omega arith; once = tt }

-- how many wait after a number was appended
appended_count : (buffer n : ℕ) (ws : List ℕ) → 0 < buffer → length ws ≤ buffer
    → length (cond (ltb (length ws) buffer) ws (drop 1 ws) ++ n ∷ []) ≤ buffer
appended_count buffer n ws some room =
    cond_both (ltb (length ws) buffer) ws (drop 1 ws) (λ vs. length (vs ++ n ∷ []) ≤ buffer)
    (λ e. omega (arith, length-append ws (n ∷ []), ltb-true (length ws) buffer e))
    (λ e. omega (arith, length-append (drop 1 ws) (n ∷ []), length-drop 1 ws))

-- ---- one channel

-- what is borrowed stays
borrowed-waiting_in : (channel : ℕ) (ns : List ℕ) (box : Mailbox)
    → (with_waiting_in channel ns box).borrowed ≡ box.borrowed
borrowed-waiting_in zero ns box = refl
borrowed-waiting_in (suc k) ns box = refl

-- what waits in a channel is in the mailbox
pub contains_waiting_in : (channel : ℕ) (box : Mailbox) (m : ℕ) → contains (waiting_in channel box) m ≡ true
    → contains (numbers_in box) m ≡ true
contains_waiting_in zero box m h =
    contains_right (other_numbers box) (box.waiting ++ box.borrowed) m (contains_left box.waiting box.borrowed m h)
contains_waiting_in (suc k) box m h = contains_left (other_numbers box) (box.waiting ++ box.borrowed) m
    (contains_in_part (λ (v : ChannelNumber). eqb v.channel (suc k)) box.others m h)

-- and so is what is borrowed
pub contains_borrowed : (box : Mailbox) (m : ℕ) → contains box.borrowed m ≡ true → contains (numbers_in box) m ≡ true
contains_borrowed box m h =
    contains_right (other_numbers box) (box.waiting ++ box.borrowed) m (contains_right box.waiting box.borrowed m h)

-- nothing is in the mailbox afterwards but these and what was
contains_in_waiting_in : (channel : ℕ) (ns : List ℕ) (box : Mailbox) (m : ℕ)
    → contains (numbers_in (with_waiting_in channel ns box)) m ≡ true
    → (contains ns m ≡ true) ⊎ (contains (numbers_in box) m ≡ true)
contains_in_waiting_in zero ns box m h =
    ⊎_elim (λ left. inr (contains_left (other_numbers box) (box.waiting ++ box.borrowed) m left))
    (λ right. ⊎_elim (λ new. inl new)
    (λ later. inr (contains_right (other_numbers box) (box.waiting ++ box.borrowed) m
    (contains_right box.waiting box.borrowed m later)))
    (contains_in_append ns box.borrowed m right))
    (contains_in_append (other_numbers box) (ns ++ box.borrowed) m h)
contains_in_waiting_in (suc k) ns box m h =
    ⊎_elim (λ left. ⊎_elim (λ new. inl new)
    (λ old. inr (contains_left (other_numbers box) (box.waiting ++ box.borrowed) m old))
    (contains_in_replaced (suc k) ns box.others m left))
    (λ right. inr (contains_right (other_numbers box) (box.waiting ++ box.borrowed) m right))
    (contains_in_append (numbers (with_numbers_of (suc k) ns box.others)) (box.waiting ++ box.borrowed) m h)

-- no number is there twice where each of these waited in the channel or is new
IsOnce-waiting_in : (channel : ℕ) (ns : List ℕ) (box : Mailbox) → IsOnce (numbers_in box) → IsOnce ns
    → ((m : ℕ) → contains ns m ≡ true
    → (contains (waiting_in channel box) m ≡ true) ⊎ (contains (numbers_in box) m ≡ false))
    → IsOnce (numbers_in (with_waiting_in channel ns box))
IsOnce-waiting_in zero ns box once new from =
    let rest : IsOnce (box.waiting ++ box.borrowed) =
    IsOnce-right (other_numbers box) (box.waiting ++ box.borrowed) once in
    IsOnce-append (other_numbers box) (ns ++ box.borrowed)
    (IsOnce-left (other_numbers box) (box.waiting ++ box.borrowed) once)
    (IsOnce-append ns box.borrowed new (IsOnce-right box.waiting box.borrowed rest)
    (λ m h. ⊎_elim (λ old. IsOnce-apart box.waiting box.borrowed rest m old)
    (λ absent. absent_right box.waiting box.borrowed m
    (absent_right (other_numbers box) (box.waiting ++ box.borrowed) m absent)) (from m h)))
    (λ m h. absent_from (ns ++ box.borrowed) m (λ k. ⊎_elim
    (λ mine. ⊎_elim (λ old. true≢false (sym (contains_left box.waiting box.borrowed m old)
    ∙ IsOnce-apart (other_numbers box) (box.waiting ++ box.borrowed) once m h))
    (λ absent. true≢false (sym h ∙ absent_left (other_numbers box) (box.waiting ++ box.borrowed) m absent))
    (from m mine))
    (λ later. true≢false (sym (contains_right box.waiting box.borrowed m later)
    ∙ IsOnce-apart (other_numbers box) (box.waiting ++ box.borrowed) once m h))
    (contains_in_append ns box.borrowed m k)))
IsOnce-waiting_in (suc k) ns box once new from =
    let others : IsOnce (other_numbers box) = IsOnce-left (other_numbers box) (box.waiting ++ box.borrowed) once in
    IsOnce-append (numbers (with_numbers_of (suc k) ns box.others)) (box.waiting ++ box.borrowed)
    (IsOnce-replaced (suc k) ns box.others others new
    (λ m h. ⊎_elim (λ old. inl old)
    (λ absent. inr (absent_left (other_numbers box) (box.waiting ++ box.borrowed) m absent)) (from m h)))
    (IsOnce-right (other_numbers box) (box.waiting ++ box.borrowed) once)
    (λ m h. ⊎_elim
    (λ mine. ⊎_elim
    (λ old. IsOnce-apart (other_numbers box) (box.waiting ++ box.borrowed) once m
    (contains_in_part (λ (v : ChannelNumber). eqb v.channel (suc k)) box.others m old))
    (λ absent. absent_right (other_numbers box) (box.waiting ++ box.borrowed) m absent) (from m mine))
    (λ old. IsOnce-apart (other_numbers box) (box.waiting ++ box.borrowed) once m old)
    (contains_in_replaced (suc k) ns box.others m h))

-- ---- a number that is put

-- what waits in its channel then
abbrev pushed : (channel buffer n : ℕ) → Mailbox → List ℕ
pushed channel buffer n box =
    cond (has_room channel buffer box) (waiting_in channel box) (drop 1 (waiting_in channel box)) ++ n ∷ []

contains_in_pushed : (channel buffer n : ℕ) (box : Mailbox) (m : ℕ) → contains (pushed channel buffer n box) m ≡ true
    → (contains (waiting_in channel box) m ≡ true) ⊎ (m ≡ n)
contains_in_pushed channel buffer n box m =
    cond_both (has_room channel buffer box) (waiting_in channel box) (drop 1 (waiting_in channel box))
    (λ ws. contains (ws ++ n ∷ []) m ≡ true → (contains (waiting_in channel box) m ≡ true) ⊎ (m ≡ n))
    (λ _ h. ⊎_elim (λ old. inl old) (λ new. inr (sym (contains_one n m new)))
    (contains_in_append (waiting_in channel box) (n ∷ []) m h))
    (λ _ h. ⊎_elim (λ old. inl (contains_in_drop 1 (waiting_in channel box) m old))
    (λ new. inr (sym (contains_one n m new)))
    (contains_in_append (drop 1 (waiting_in channel box)) (n ∷ []) m h))

IsOnce-pushed : (channel buffer n : ℕ) (box : Mailbox) → IsOnce (waiting_in channel box)
    → contains (waiting_in channel box) n ≡ false → IsOnce (pushed channel buffer n box)
IsOnce-pushed channel buffer n box once absent =
    cond_both (has_room channel buffer box) (waiting_in channel box) (drop 1 (waiting_in channel box))
    (λ ws. IsOnce (ws ++ n ∷ []))
    (λ _. IsOnce-push (waiting_in channel box) n once absent)
    (λ _. IsOnce-push (drop 1 (waiting_in channel box)) n (IsOnce-drop 1 (waiting_in channel box) once)
    (absent_from (drop 1 (waiting_in channel box)) n
    (λ h. true≢false (sym (contains_in_drop 1 (waiting_in channel box) n h) ∙ absent))))

-- in one channel no number waits twice
IsOnce-waiting : (channel : ℕ) (box : Mailbox) → IsOnce (numbers_in box) → IsOnce (waiting_in channel box)
IsOnce-waiting zero box once =
    IsOnce-left box.waiting box.borrowed (IsOnce-right (other_numbers box) (box.waiting ++ box.borrowed) once)
IsOnce-waiting (suc k) box once = IsOnce-part (λ (v : ChannelNumber). eqb v.channel (suc k)) box.others
    (IsOnce-left (other_numbers box) (box.waiting ++ box.borrowed) once)

-- how many wait in channel 0 then
waiting-appended : (limit channel buffer n : ℕ) (box : Mailbox) → 0 < buffer → buffer ≤ limit
    → waiting_count box ≤ buffer → length box.waiting ≤ limit
    → length (with_appended channel buffer n box).waiting ≤ limit
waiting-appended limit zero buffer n box some fits room within =
    omega (arith, appended_count buffer n box.waiting some room)
waiting-appended limit (suc k) buffer n box some fits room within = within

-- a number that is put, which isn't in the mailbox yet, keeps to the receiver's buffer and to the service's limit
pub IsWithin-appended : (limit borrow_limit channel buffer n : ℕ) (box : Mailbox) → 0 < buffer → buffer ≤ limit
    → waiting_count box ≤ buffer
    → contains (numbers_in box) n ≡ false
    → IsWithin limit borrow_limit box → IsWithin limit borrow_limit (with_appended channel buffer n box)
IsWithin-appended limit borrow_limit channel buffer n box some fits room absent w = record {
  waiting = waiting-appended limit channel buffer n box some fits room w.waiting;
  borrowed = omega (arith, ap length (borrowed-waiting_in channel (pushed channel buffer n box) box), w.borrowed);
  once = IsOnce-waiting_in channel (pushed channel buffer n box) box w.once
      (IsOnce-pushed channel buffer n box (IsOnce-waiting channel box w.once)
      (absent_from (waiting_in channel box) n (λ h. true≢false (sym (contains_waiting_in channel box n h) ∙ absent))))
      (λ m h. ⊎_elim (λ old. inl old) (λ new. inr (ap (contains (numbers_in box)) new ∙ absent))
      (contains_in_pushed channel buffer n box m h));
}

-- after a number was appended, what waits in channel 0 keeps to the receiver's buffer
pub waiting_count-appended : (channel buffer n : ℕ) (box : Mailbox) → 0 < buffer → waiting_count box ≤ buffer
    → waiting_count (with_appended channel buffer n box) ≤ buffer
waiting_count-appended channel buffer n box some room =
    waiting-appended buffer channel buffer n box some (omega arith) room room

-- and so does what waits in the other channels
pub OthersWithin-appended : (channels limit channel buffer n : ℕ) (box : Mailbox) → channel < channels → 0 < buffer
    → buffer ≤ limit
    → OthersWithin channels buffer box → OthersWithin channels limit box
    → OthersWithin channels limit (with_appended channel buffer n box)
OthersWithin-appended channels limit zero buffer n box low some fits room within other = within other
OthersWithin-appended channels limit (suc k) buffer n box low some fits room within other = at (eqb other (suc k)) refl
  where
    roomy : (b : ℕ) → other_room channels b (suc k) ≡ b
    roomy b = ap (λ t. cond t b 0) (lt-ltb (suc k) channels low)

    count : length (pushed (suc k) buffer n box) ≤ buffer
    count = appended_count buffer n (waiting_in (suc k) box) some (omega (arith, room (suc k), roomy buffer))

    at : (b : Bool) → eqb other (suc k) ≡ b
        → length (numbers_of other (with_appended (suc k) buffer n box).others) ≤ other_room channels limit other
    at true same =
        subst (λ j. length (numbers_of j (with_appended (suc k) buffer n box).others) ≤ other_room channels limit j)
        (sym (eqb-true other (suc k) same))
        (omega (
          arith,
          count,
          fits,
          roomy limit,
          ap length (numbers_of-same (suc k) (pushed (suc k) buffer n box) box.others),
        ))
    at false apart =
        subst (λ ns. length ns ≤ other_room channels limit other)
        (sym (numbers_of-other other (suc k) (eqb-false other (suc k) apart) (pushed (suc k) buffer n box) box.others))
        (within other)

-- a number in a mailbox after one was appended is that one, or it was there
pub contains_in_appended : (channel buffer n : ℕ) (box : Mailbox) (m : ℕ)
    → contains (numbers_in (with_appended channel buffer n box)) m ≡ true
    → (m ≡ n) ⊎ (contains (numbers_in box) m ≡ true)
contains_in_appended channel buffer n box m h =
    ⊎_elim (λ new. ⊎_elim (λ old. inr (contains_waiting_in channel box m old)) (λ same. inl same)
    (contains_in_pushed channel buffer n box m new))
    (λ old. inr old) (contains_in_waiting_in channel (pushed channel buffer n box) box m h)

-- what is borrowed stays when a number is appended
pub borrowed-appended : (channel buffer n : ℕ) (box : Mailbox)
    → (with_appended channel buffer n box).borrowed ≡ box.borrowed
borrowed-appended channel buffer n box = borrowed-waiting_in channel (pushed channel buffer n box) box

-- so something is borrowed then where something was
pub has_borrows-appended : (channel buffer n : ℕ) (box : Mailbox)
    → has_borrows (with_appended channel buffer n box) ≡ has_borrows box
has_borrows-appended channel buffer n box =
    ap (λ bs. not (is_nil bs)) (borrowed-waiting_in channel (pushed channel buffer n box) box)

-- a mailbox keeps its bounds when what waits is lost
pub IsWithin-dropped : (limit borrow_limit : ℕ) (box : Mailbox) → IsWithin limit borrow_limit box
    → IsWithin limit borrow_limit (waiting_dropped box)
IsWithin-dropped limit borrow_limit box w = record {
  waiting = omega arith;
  borrowed = w.borrowed;
  once = IsOnce-right box.waiting box.borrowed (IsOnce-right (other_numbers box) (box.waiting ++ box.borrowed) w.once);
}

-- what is left when what waits is lost was there
pub contains_in_dropped : (box : Mailbox) (m : ℕ) → contains (numbers_in (waiting_dropped box)) m ≡ true
    → contains (numbers_in box) m ≡ true
contains_in_dropped box m h =
    contains_right (other_numbers box) (box.waiting ++ box.borrowed) m (contains_right box.waiting box.borrowed m h)

-- nothing waits in any channel
pub OthersWithin-none : (channels buffer : ℕ) (box : Mailbox) → other_numbers box ≡ []
    → OthersWithin channels buffer box
OthersWithin-none channels buffer box none channel =
    omega (arith, length-part_le (λ (v : ChannelNumber). eqb v.channel channel) box.others, ap length none)

pub OthersWithin-dropped : (channels buffer : ℕ) (box : Mailbox) → OthersWithin channels buffer (waiting_dropped box)
OthersWithin-dropped channels buffer box = OthersWithin-none channels buffer (waiting_dropped box) refl

-- the end of a history waits in a mailbox in which nothing is
pub IsWithin-history : (limit borrow_limit buffer : ℕ) (history : List ℕ) (box : Mailbox) → buffer ≤ limit
    → IsOnce history → has_numbers box ≡ false
    → IsWithin limit borrow_limit (with_waiting (last_n buffer history) box)
IsWithin-history limit borrow_limit buffer history box fits once empty =
    let count : length (last_n buffer history) ≤ buffer = length-last_n buffer history in
    let none : (other_numbers box ≡ []) × (box.waiting ≡ []) × (box.borrowed ≡ []) = nothing_anywhere box empty in
    record {
      waiting = omega (arith, count, fits);
      borrowed = omega (arith, ap length (nothing_borrowed box empty));
      once = subst (λ os. IsOnce (os ++ (last_n buffer history ++ box.borrowed))) (sym none.0)
          (IsOnce-append (last_n buffer history) box.borrowed (IsOnce-last_n buffer history once)
          (subst IsOnce (sym (nothing_borrowed box empty)) tt)
          (λ n _. ap (λ bs. contains bs n) (nothing_borrowed box empty)));
    }

-- the end of a history keeps to the receiver's buffer
pub waiting_count-history : (buffer : ℕ) (history : List ℕ) (box : Mailbox)
    → waiting_count (with_waiting (last_n buffer history) box) ≤ buffer
waiting_count-history buffer history box = length-last_n buffer history

-- in a mailbox that was filled from a history are numbers of the history alone
pub contains_in_history : (buffer : ℕ) (history : List ℕ) (box : Mailbox) (m : ℕ) → has_numbers box ≡ false
    → contains (numbers_in (with_waiting (last_n buffer history) box)) m ≡ true → contains history m ≡ true
contains_in_history buffer history box m empty h =
    let none : (other_numbers box ≡ []) × (box.waiting ≡ []) × (box.borrowed ≡ []) = nothing_anywhere box empty in
    ⊎_elim (λ left. contains_in_last_n buffer history m left)
    (λ right. absurd (true≢false (sym right ∙ ap (λ bs. contains bs m) (nothing_borrowed box empty))))
    (contains_in_append (last_n buffer history) box.borrowed m
    (subst (λ os. contains (os ++ (last_n buffer history ++ box.borrowed)) m ≡ true) none.0 h))

-- what is borrowed stays when other numbers wait
pub has_borrows-history : (ns : List ℕ) (box : Mailbox) → has_borrows (with_waiting ns box) ≡ has_borrows box
has_borrows-history ns box = refl

-- the first of those that wait and those that are borrowed, moved to the end, is no new number
moved_first : (n : ℕ) (rest bs : List ℕ) (m : ℕ) → contains (rest ++ (bs ++ n ∷ [])) m ≡ true
    → contains ((n ∷ rest) ++ bs) m ≡ true
moved_first n rest bs m h =
    ⊎_elim (λ left. contains_left (n ∷ rest) bs m (contains_later n m rest left))
    (λ right. ⊎_elim (λ there. contains_right (n ∷ rest) bs m there)
    (λ here. contains_left (n ∷ rest) bs m (or_left (eqb n m) (contains rest m) (eq-eqb n m (contains_one n m here))))
    (contains_in_append bs (n ∷ []) m right))
    (contains_in_append rest (bs ++ n ∷ []) m h)

-- the first that waits becomes borrowed
pub IsWithin-borrowed : (limit borrow_limit n : ℕ) (box box' : Mailbox) → can_receive borrow_limit box ≡ true
    → BorrowsFirst box n box' → IsWithin limit borrow_limit box → IsWithin limit borrow_limit box'
IsWithin-borrowed limit borrow_limit n box box' can borrows w =
    let low : length box.borrowed < borrow_limit = ltb-true (length box.borrowed) borrow_limit
    (and_parts (has_data box) (ltb (length box.borrowed) borrow_limit) can).1 in
    let rest : List ℕ = borrows.0 in
    let all : IsOnce (other_numbers box ++ ((n ∷ rest) ++ box.borrowed)) =
    subst (λ ws. IsOnce (other_numbers box ++ (ws ++ box.borrowed))) borrows.1 w.once in
    let whole : IsOnce ((n ∷ rest) ++ box.borrowed) =
    IsOnce-right (other_numbers box) ((n ∷ rest) ++ box.borrowed) all in
    subst (IsWithin limit borrow_limit) (sym borrows.2) (record {
      waiting = omega (arith, ap length borrows.1, w.waiting);
      borrowed = omega (arith, length-append box.borrowed (n ∷ []));
      once = IsOnce-append (other_numbers box) (rest ++ (box.borrowed ++ n ∷ []))
          (IsOnce-left (other_numbers box) ((n ∷ rest) ++ box.borrowed) all)
          (subst IsOnce (append_assoc rest box.borrowed (n ∷ []))
          (IsOnce-push (rest ++ box.borrowed) n whole.1 whole.0))
          (λ m h. absent_from (rest ++ (box.borrowed ++ n ∷ [])) m
          (λ k. true≢false (sym (moved_first n rest box.borrowed m k)
          ∙ IsOnce-apart (other_numbers box) ((n ∷ rest) ++ box.borrowed) all m h)));
    })

-- no more wait after the first was borrowed
pub waiting_count-borrowed : (n : ℕ) (box box' : Mailbox) → BorrowsFirst box n box'
    → waiting_count box' ≤ waiting_count box
waiting_count-borrowed n box box' borrows =
    let count : length box'.waiting ≡ length borrows.0 = ap (λ (b : Mailbox). length b.waiting) borrows.2 in
    omega (arith, ap length borrows.1)

-- what is in the mailbox after the first was borrowed was in it
pub contains_in_borrowed : (n : ℕ) (box box' : Mailbox) (m : ℕ) → BorrowsFirst box n box'
    → contains (numbers_in box') m ≡ true → contains (numbers_in box) m ≡ true
contains_in_borrowed n box box' m borrows h =
    let rest : List ℕ = borrows.0 in
    let found : contains (other_numbers box ++ (rest ++ (box.borrowed ++ n ∷ []))) m ≡ true =
    subst (λ (b : Mailbox). contains (numbers_in b) m ≡ true) borrows.2 h in
    subst (λ ws. contains (other_numbers box ++ (ws ++ box.borrowed)) m ≡ true) (sym borrows.1)
    (⊎_elim (λ left. contains_left (other_numbers box) ((n ∷ rest) ++ box.borrowed) m left)
    (λ right.
    contains_right (other_numbers box) ((n ∷ rest) ++ box.borrowed) m (moved_first n rest box.borrowed m right))
    (contains_in_append (other_numbers box) (rest ++ (box.borrowed ++ n ∷ [])) m found))

-- something is borrowed after a message was received
pub has_borrows-borrowed : (n : ℕ) (box box' : Mailbox) → BorrowsFirst box n box' → has_borrows box' ≡ true
has_borrows-borrowed n box box' borrows = ap has_borrows borrows.2 ∙ some_with_last box.borrowed n
  where
    some_with_last : (ns : List ℕ) (n : ℕ) → not (is_nil (ns ++ n ∷ [])) ≡ true
    some_with_last [] n = refl
    some_with_last (m ∷ ns) n = refl

-- a mailbox has numbers before and after its first is borrowed
pub has_numbers-borrowed : (n : ℕ) (box box' : Mailbox) → BorrowsFirst box n box'
    → (has_numbers box ≡ true) × (has_numbers box' ≡ true)
has_numbers-borrowed n box box' borrows = (
  has_numbers-data box (ap (λ ws. not (is_nil ws)) borrows.1),
  has_numbers-borrows box' (has_borrows-borrowed n box box' borrows),
)

-- something waits where a message is received
pub has_waiting-borrowed : (n : ℕ) (box box' : Mailbox) → BorrowsFirst box n box' → has_waiting box ≡ true
has_waiting-borrowed n box box' borrows = has_waiting-data box (ap (λ ws. not (is_nil ws)) borrows.1)

-- what is left when a number is taken out of those that are borrowed was there
left_after : (n : ℕ) (ws bs : List ℕ) (m : ℕ) → contains (ws ++ without n bs) m ≡ true → contains (ws ++ bs) m ≡ true
left_after n ws bs m h =
    ⊎_elim (λ left. contains_left ws bs m left) (λ right. contains_right ws bs m (contains_in_without n m bs right))
    (contains_in_append ws (without n bs) m h)

-- a mailbox keeps its bounds when a number is released
pub IsWithin-released : (limit borrow_limit n : ℕ) (box : Mailbox) → IsWithin limit borrow_limit box
    → IsWithin limit borrow_limit (with_released n box)
IsWithin-released limit borrow_limit n box w = record {
  waiting = w.waiting;
  borrowed = omega (arith, length-without_le n box.borrowed, w.borrowed);
  once = IsOnce-append (other_numbers box) (box.waiting ++ without n box.borrowed)
      (IsOnce-left (other_numbers box) (box.waiting ++ box.borrowed) w.once)
      (IsOnce-append box.waiting (without n box.borrowed) (IsOnce-left box.waiting box.borrowed rest)
      (IsOnce-without n box.borrowed (IsOnce-right box.waiting box.borrowed rest))
      (λ m h. absent_from (without n box.borrowed) m (λ k.
      true≢false (sym (contains_in_without n m box.borrowed k) ∙ IsOnce-apart box.waiting box.borrowed rest m h))))
      (λ m h. absent_from (box.waiting ++ without n box.borrowed) m
      (λ k. true≢false (sym (left_after n box.waiting box.borrowed m k)
      ∙ IsOnce-apart (other_numbers box) (box.waiting ++ box.borrowed) w.once m h)));
}
  where
    rest : IsOnce (box.waiting ++ box.borrowed)
    rest = IsOnce-right (other_numbers box) (box.waiting ++ box.borrowed) w.once

-- what is in the mailbox after a release was in it
pub contains_in_released : (n : ℕ) (box : Mailbox) (m : ℕ) → contains (numbers_in (with_released n box)) m ≡ true
    → contains (numbers_in box) m ≡ true
contains_in_released n box m h =
    ⊎_elim (λ left. contains_left (other_numbers box) (box.waiting ++ box.borrowed) m left)
    (λ right. contains_right (other_numbers box) (box.waiting ++ box.borrowed) m
    (left_after n box.waiting box.borrowed m right))
    (contains_in_append (other_numbers box) (box.waiting ++ without n box.borrowed) m h)

-- where something is borrowed after a release, something was before
pub has_borrows_before_release : (n : ℕ) (box : Mailbox) → has_borrows (with_released n box) ≡ true
    → has_borrows box ≡ true
has_borrows_before_release n box h = at box.borrowed h
  where
    at : (bs : List ℕ) → not (is_nil (without n bs)) ≡ true → not (is_nil bs) ≡ true
    at [] h = h
    at (b ∷ bs) h = refl

-- a mailbox that has numbers after a release had some before
pub has_numbers_before_release : (n : ℕ) (box : Mailbox) → has_numbers (with_released n box) ≡ true
    → has_numbers box ≡ true
has_numbers_before_release n box h = at (other_numbers box) box.waiting box.borrowed h
  where
    at : (os ws bs : List ℕ) → not (is_nil os && (is_nil ws && is_nil (without n bs))) ≡ true
        → not (is_nil os && (is_nil ws && is_nil bs)) ≡ true
    at [] [] [] h = h
    at [] [] (b ∷ bs) h = refl
    at [] (w ∷ ws) bs h = refl
    at (o ∷ os) ws bs h = refl

-- the other channels stay where one is received
pub OthersWithin-borrowed : (channels buffer n : ℕ) (box box' : Mailbox) → BorrowsFirst box n box'
    → OthersWithin channels buffer box → OthersWithin channels buffer box'
OthersWithin-borrowed channels buffer n box box' borrows h = subst (OthersWithin channels buffer) (sym borrows.2) h

-- how many numbers a mailbox has
pub length-numbers_in : (buffer borrow_limit channels : ℕ) (box : Mailbox) → 0 < channels
    → IsWithin buffer borrow_limit box → OthersWithin channels buffer box
    → length (numbers_in box) ≤ channels * buffer + borrow_limit
length-numbers_in buffer borrow_limit zero box some w h = absurd (omega (arith, some))
length-numbers_in buffer borrow_limit (suc more) box some w h =
    let others : length box.others ≤ more * buffer =
    length-channels more buffer box.others (nil_of _ (h 0)) beyond each in
    let times : suc more * buffer ≡ more * buffer + buffer = times_suc more buffer in
    omega (
      arith,
      length-append (other_numbers box) (box.waiting ++ box.borrowed),
      length-append box.waiting box.borrowed,
      length-numbers box.others,
      others,
      times,
      w.waiting,
      w.borrowed,
    )
  where
    times_suc : (a b : ℕ) → suc a * b ≡ a * b + b
    times_suc a b = grind arith

    nil_of : (ns : List ℕ) → length ns ≤ 0 → ns ≡ []
    nil_of [] few = refl
    nil_of (n ∷ ns) few = absurd (omega arith)

    beyond : (k : ℕ) → suc more ≤ k → numbers_of k box.others ≡ []
    beyond zero high = nil_of (numbers_of 0 box.others) (h 0)
    beyond (suc k) high = nil_of (numbers_of (suc k) box.others)
        (omega (arith, h (suc k), ap (λ t. cond t buffer 0) (le-ltb (suc k) (suc more) high)))

    each : (k : ℕ) → length (numbers_of k box.others) ≤ buffer
    each zero = omega (arith, h 0)
    each (suc k) = cond_both (ltb (suc k) (suc more)) buffer 0
        (λ n. length (numbers_of (suc k) box.others) ≤ n → length (numbers_of (suc k) box.others) ≤ buffer)
        (λ _ few. few) (λ _ few. omega arith) (h (suc k))
