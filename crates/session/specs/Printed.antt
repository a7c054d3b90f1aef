-- The lines that a broker's program prints, without their newlines.
--
-- field          a word, and a number in decimal
-- quote_text     a quote: its class, its top and its bottom
-- quote_field    a word, and a quote
-- grant_head     a grant from a client, or from 0, and what is paid for it
-- grant_line     the line of a grant, of a free frame or of a frame that was taken from a client
-- client_head    a client, and how many frames it holds
-- client_line    the line of a client in the end report, of one that holds nothing or of one that holds frames
-- printed_line   what is printed of an event line
-- reported_line  a line of the end report
use Rattle.std.specs.Prelude.{ℕ, List, ◌++◌, Some, None, codes, decimal, Option}
use Rattle.rules.specs.declared.offer.Quote.{Quote}
use Rattle.events.specs.LineFaults.{fault_line}
use Rattle.session.specs.declared.printed.Grant.{Grant}
use Rattle.session.specs.declared.printed.Taken.{Taken}
use Rattle.session.specs.declared.printed.Held.{Held}
use Rattle.session.specs.declared.printed.Printed.{Printed}
use Rattle.session.specs.declared.printed.Printed.TheVariants as line
use Rattle.session.specs.declared.printed.Reported.{Reported}
use Rattle.session.specs.declared.printed.Reported.TheVariants as report

abbrev pub field : List ℕ → ℕ → List ℕ
field word n = word ++ decimal n

abbrev pub quote_text : Quote → List ℕ
quote_text q = decimal q.class ++ field (codes ":") q.top ++ field (codes "/") q.bottom

abbrev pub quote_field : List ℕ → Quote → List ℕ
quote_field word q = word ++ quote_text q

abbrev pub grant_head : Grant → ℕ → List ℕ
grant_head g from =
    field (codes "grant ") g.client
    ++ field (codes " frame ") g.frame
    ++ field (codes " from ") from
    ++ quote_field (codes " paying ") g.paying

abbrev pub grant_line : Grant → Option Taken → List ℕ
grant_line g None = grant_head g 0
grant_line g (Some t) = grant_head g t.from ++ quote_field (codes " over ") t.over

abbrev pub client_head : ℕ → ℕ → List ℕ
client_head client frames = field (codes "client ") client ++ field (codes " holds ") frames

abbrev pub client_line : ℕ → Option Held → List ℕ
client_line client None = client_head client 0 ++ codes " price -"
client_line client (Some h) = client_head client h.frames ++ quote_field (codes " price ") h.price

abbrev pub printed_line : Printed → List ℕ
printed_line (line.Pool unit frames) = field (codes "pool ") unit ++ field (codes " frames ") frames
printed_line (line.Admit client) = field (codes "admit ") client
printed_line (line.Grant g) = grant_line g g.taken
printed_line (line.Back client frame) = field (codes "back ") client ++ field (codes " frame ") frame
printed_line (line.Leave client frames) = field (codes "leave ") client ++ field (codes " frames ") frames
printed_line (line.Estimate client) = field (codes "estimate ") client
printed_line (line.Clock tick ended) = field (codes "clock ") tick ++ field (codes " ended ") ended
printed_line (line.Refused f) = fault_line f

abbrev pub reported_line : Reported → List ℕ
reported_line (report.Free frames) = field (codes "end free ") frames
reported_line (report.Client client held) = client_line client held
