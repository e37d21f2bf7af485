-- The base that each command makes is that of a command event of a net.
use Rattle.std.proofs.Common.{◌≡◌, inl, inr, ⊎_elim, refl, sym, ap, subst, arith, Bool, true, false, ℕ, List, [], Ok, Some, length, take}
use Rattle.{std.proofs.lemmas.List.take_all, base_file.specs.Base.Base, echo_links.specs.{Links.LinkFile, LinkLines.LinksOf}}
use Rattle.cmd_store.specs.{declared.{drafting.NewMessage.NewMessage, answering.Answer.Answer}, Coming.Coming, Serials.with_serial, Drafts.draft_given}
use Rattle.cmd_store.specs.{declared.{letter.Letter.Letter, mailed.MailWords.MailWords}, MailPosted.Mails, FreeSerial.PostsAs, Posted.Posts}
use Rattle.{cmd_store.specs.{Purged.{HoldsOrPurges, Purges}, Replied.Replies}, model_run.specs.Run.{change, nth}, model_steps.specs.Posting.posted}
use Rattle.{base_file.specs.declared.range.PurgeRange.PurgeRange, base_store.specs.Store.purged, law_stations.specs.Commands.{Command, IsPacketAt, Post, Purge, Toss, TossesAll, whole_of}}
use Rattle.law_stations.specs.{Nets.{Paired, Station, with_base, with_left, with_posting, with_tossed}, Kinds.{IsPurge, IsToss}, Disks.Disks}
use Rattle.law_stations.{specs.DiskKinds.{IsMail, IsPostAs, IsReplyAs}, proofs.Leading.{LeadsTo, MadeOrHeld}}

module _ (station : Station) (file : LinkFile) (i : ℕ) (d : Disks) (there : nth i d.net.stations ≡ Some station) (says : LinksOf station.links (Ok file)) where
  pub posting : (IsCommand : Command → Type 0) (words : NewMessage) (body : List ℕ) (next : Base) → IsCommand (Post words body) → Posts file words body station.base next → LeadsTo IsCommand i d next
  posting IsCommand words body next is posts = record {
    after = record { net = with_posting d.net i next (posted file words.tag.now (draft_given words body) words.serial words.stamp); staging = d.staging };
    stations = refl;
    command = Post words body;
    is = is;
    leads = (record { station = station; file = file; at = record { there = there; links = says }; next = next; makes = posts; becomes = refl }, refl);
  }

  -- with the serial of the words, or a free one
  pub posting-as : (IsCommand : Command → Type 0) (free : Bool) (words : NewMessage) (body : List ℕ) (next : Base) → ((command : Command) → IsPostAs free words body command → IsCommand command)
      → PostsAs free file words body station.base next → LeadsTo IsCommand i d next
  posting-as IsCommand false words body next is posts = posting IsCommand words body next (is (Post words body) refl) posts
  posting-as IsCommand true words body next is free =
      posting IsCommand (with_serial words free.serial) body next (is (Post (with_serial words free.serial) body) (free.serial, refl)) free.made

  pub replying : (index : ℕ) (answer : Answer) (body : List ℕ) (next : Base) → Replies file index answer body station.base next → LeadsTo (IsReplyAs index answer body station.base) i d next
  replying index answer body next replies = grind (arith, posting-as)

  pub mailing : (letter : Letter) (asked : MailWords) (next : Base) → Mails file letter asked station.base next → LeadsTo (IsMail letter asked) i d next
  mailing letter asked next mails =
      posting-as (IsMail letter asked) asked.free mails.words letter.body next (λ command is. record { words = mails.words; posting = mails.posting; is = is }) mails.made

  pub purging : (range : PurgeRange) (next : Base) → Purges range station.base next → LeadsTo (IsPurge range) i d next
  purging range next is = record {
    after = record { net = with_left d.net i [] (purged range station.base); staging = d.staging };
    stations = ap (λ (b : Base). change i (with_base b) d.net.stations) (sym is);
    command = Purge range;
    is = refl;
    leads = (record { station = station; there = there; becomes = refl }, refl);
  }

  pub holding-or-purging : (range : PurgeRange) (next : Base) → HoldsOrPurges range station.base next → MadeOrHeld (IsPurge range) i d station.base next
  holding-or-purging range next may = ⊎_elim (λ same. inl same) (λ purges. inr (purging range next purges)) may

  -- a toss of the packet files of these indexes
  abbrev pub tossing : (files : List Coming) (indexes : List ℕ) (next : Base) → Paired (IsPacketAt d.net.packets) indexes files → TossesAll files file station.base next → LeadsTo (IsToss indexes) i d next
  tossing files indexes next are tosses =
      let all : take (length indexes) indexes ≡ indexes = take_all (length indexes) indexes (omega arith) in
      record {
        after = record { net = with_tossed d.net i next (whole_of (take (length indexes) indexes) tosses.stopped tosses.left); staging = d.staging };
        stations = refl;
        command = Toss indexes;
        is = refl;
        leads = (
          length indexes,
          record {
            station = station;
            file = file;
            at = record { there = there; links = says };
            files = files;
            are = subst (λ (l : List ℕ). Paired (IsPacketAt d.net.packets) l files) (sym all) are;
            next = next;
            tosses = tosses;
            becomes = refl;
          },
          refl,
        );
      }
