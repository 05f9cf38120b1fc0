-- What lies where a borrowed message lies.
use Rattle.std.proofs.Common.{◌≡◌, ℕ, ◌<◌, ◌*◌, true, length, refl, ap, sym, ◌∙◌, Some}
use Rattle.std.proofs.lemmas.Bool.{eq-eqb}
use Rattle.std.specs.Prelude.{slice_get, slice_index}
use Rattle.iox2_machine.specs.machine.Mailbox.{is_borrowed}
use Rattle.iox2_machine.specs.machine.Records.{Entry}
use Rattle.iox2_machine.specs.Stored.{In_mailbox}
use Rattle.iox2_slots.specs.SlotBook.{Book}
use Rattle.iox2_contents.specs.SlotContents.{ContentState}
use Rattle.iox2_machine.specs.declared.header.Header.{Header}
use Rattle.iox2_machine.specs.declared.service_config.TypeVariant.TheVariants.{FixedSize}
use Rattle.iox2_slots.specs.declared.slots.mark.SlotMark.{SlotMark}
use Rattle.iox2_slots.specs.declared.slots.mark.SlotMark.TheVariants.{Unwritten, Written, Sent}
use Rattle.iox2_connections.proofs.Counts.{in_range}
use Rattle.iox2_domain.specs.Kept.{Sent_message, state_of, entries_of}
use Rattle.iox2_domain.specs.Fields.{Fields, kept_of, contents_at, message_of}
use Rattle.iox2_domain.specs.Invariant.{IsDomain, HasNumber}
use Rattle.iox2_domain.specs.SampleSlots.{LiesBorrowed}
use Rattle.iox2_domain.specs.declared.sample_slots.SampleSlot.{SampleSlot}
use Rattle.iox2_domain.proofs.lemmas.samples.BorrowedNumbers.{lies-borrowed}
use Rattle.iox2_domain.proofs.lemmas.slots.ConnectionSlots.{borrowed-in_use}
use Rattle.iox2_domain.proofs.lemmas.slots.Messages.{lies_at, message_in-parts, message_at-slot, has_number}
use Rattle.iox2_domain.proofs.lemmas.slots.Messages.{entry-there}
use Rattle.iox2_laws.proofs.MailboxLemmas.{contains_borrowed}

module _ {T U : Type 0} where
  -- the parts of a sent message are those of its slot
  pub record IsSentMessage (n : ℕ) (entry : Entry T U) (header : Header) (content : ContentState T U) : Type 0 where
    pub header_is : entry.header ≡ header
    pub user_header_is : entry.user_header ≡ content.user_header
    pub values_are : entry.values ≡ content.values

  sent-parts : (publisher number n : ℕ) (header : Header) (content : ContentState T U) (mark : SlotMark)
      (entry : Entry T U)
      → Sent_message n entry ≡ message_of publisher number header content mark → IsSentMessage n entry header content
  sent-parts publisher number n header content Unwritten entry e = absurd cc
  sent-parts publisher number n header content Written entry e = absurd cc
  sent-parts publisher number n header content Sent entry e =
      let shown : Entry T U = record { header = header; user_header = content.user_header; values = content.values } in
      let same : Sent_message n entry ≡ Sent_message number shown = e in
      let is : entry ≡ shown = cc in
      record {
        header_is = ap (λ (x : Entry T U). x.header) is;
        user_header_is = ap (λ (x : Entry T U). x.user_header) is;
        values_are = ap (λ (x : Entry T U). x.values) is;
      }

-- a borrowed message has an entry that names its publisher
pub borrowed-entry : {T U : Type 0} (f : Fields T U) → IsDomain f → (q p n : ℕ)
    → is_borrowed n ((state_of (kept_of f)).mailboxes p q) ≡ true
    → (entry : Entry T U) × (entries_of (kept_of f) n ≡ Some entry) × ((entry.header).publisher_id ≡ p)
borrowed-entry f sound q p n borrowed =
    sound.entries p n (In_mailbox q (contains_borrowed ((state_of (kept_of f)).mailboxes p q) n borrowed))

-- the entry of a borrowed message, in its slot
pub record SampleEntry {T U : Type 0} (f : Fields T U) (p n : ℕ) (at : SampleSlot) (b : Book) : Type 0 where
  pub entry : Entry T U
  pub is_kept : entries_of (kept_of f) n ≡ Some entry
  pub origin_is : (entry.header).publisher_id ≡ p
  pub content : ContentState T U
  pub within : at.slot < length b.holders
  pub headers : slice_get b.headers at.slot ≡ Some entry.header
  pub contains : slice_get (contents_at f.contents at.book) at.slot ≡ Some content
  pub user_header_is : entry.user_header ≡ content.user_header
  pub values_are : entry.values ≡ content.values
  pub one_value : (f.config).variant ≡ FixedSize → (f.config).units_per_element ≡ 1 → length entry.values ≡ 1

module _ {T U : Type 0} (f : Fields T U) (sound : IsDomain f) (q n : ℕ) (at : SampleSlot)
    (lies : LiesBorrowed f q n at) where
  abbrev its-publisher : ℕ
  its-publisher = (lies.connection).home.publisher

  pub its-slot : HasNumber f.books at.book at.slot n
  its-slot = record {
    book = lies.book;
    stands = lies.has_book;
    in_use = borrowed-in_use f sound at.connection at.book lies.connection lies.book lies.has_connection lies.has_book
        lies.book_is at.slot (lies.slot_is).borrowed;
    number = (lies.slot_is).number_is;
  }

  -- there is such an entry
  pub sample-entry : SampleEntry f (lies.connection).home.publisher n at lies.book
  sample-entry =
      let kept = borrowed-entry f sound q its-publisher n (lies-borrowed f sound q n at lies) in
      by kept.0 kept.1 kept.2 (entry-there f n kept.0 kept.1)
    where
      in_slot : (entry : Entry T U) → entries_of (kept_of f) n ≡ Some entry
          → (entry.header).publisher_id ≡ its-publisher → lies_at f at.book at.slot ≡ Some (Sent_message n entry)
          → SampleEntry f its-publisher n at lies.book
      in_slot entry is origin there =
          let here = sym (message_at-slot f.contents f.books at.book at.slot lies.book lies.has_book) ∙ there in
          let parts = message_in-parts lies.book (contents_at f.contents at.book) at.slot (Sent_message n entry) here in
          let sent = sent-parts (lies.book).publisher
          (slice_index (lies.book).numbers at.slot) n parts.header parts.content parts.mark entry parts.is in
          let shape = sound.parts.shapes.at at.book at.slot lies.book (Sent_message n entry) lies.has_book here in
          record {
            entry = entry;
            is_kept = is;
            origin_is = origin;
            content = parts.content;
            within = in_range (lies.book).holders at.slot parts.in_use;
            headers = parts.headers ∙ ap Some (sym sent.header_is);
            contains = parts.contains;
            user_header_is = sent.user_header_is;
            values_are = sent.values_are;
            one_value = λ fixed one. shape.length
                ∙ ap (λ (k : ℕ). k * (f.config).units_per_element) (shape.single fixed) ∙ ap (λ (k : ℕ). 1 * k) one;
          }

      by : (entry : Entry T U) → entries_of (kept_of f) n ≡ Some entry → (entry.header).publisher_id ≡ its-publisher
          → (key slot : ℕ) × (lies_at f key slot ≡ Some (Sent_message n entry))
          → SampleEntry f its-publisher n at lies.book
      by entry is origin there =
          let same = sound.parts.numbered.one there.0 at.book there.1 at.slot n
          (has_number f.contents f.books there.0 there.1 n (Sent_message n entry) there.2 (eq-eqb n n refl)) its-slot in
          in_slot entry is origin (sym (ap (λ (s : ℕ). lies_at f at.book s) same.1)
          ∙ sym (ap (λ (k : ℕ). lies_at f k there.1) same.0) ∙ there.2)

  -- whoever it is borrowed from, it is that connection's publisher
  pub one-publisher : (p : ℕ) → is_borrowed n ((state_of (kept_of f)).mailboxes p q) ≡ true
      → (lies.connection).home.publisher ≡ p
  one-publisher p borrowed =
      let kept = borrowed-entry f sound q p n borrowed in
      let both : Some sample-entry.entry ≡ Some kept.0 = sym sample-entry.is_kept ∙ kept.1 in
      let same : sample-entry.entry ≡ kept.0 = cc in
      sym sample-entry.origin_is ∙ ap (λ (x : Entry T U). (x.header).publisher_id) same ∙ kept.2
