-- The log lines of sums and of a home server that is marked up, without their line feeds, and the other end of a datagram as log lines have it (own).
use Rattle.std.specs.Prelude.{ℕ, nat_lt, Bool, true, false, ◌||◌, List, ◌++◌, codes}
use Rattle.std.specs.Fmt.{decimal}
use Rattle.rad_config.specs.declared.reading.address.Endpoint.{Endpoint}
use Rattle.rad_realms.specs.Printed.{address_text}
use Rattle.rad_metrics.specs.declared.counted.Counted.{Counted}
use Rattle.rad_metrics.specs.declared.counted.Counted.TheVariants.{Dropped, Refused, Unheard, SendFaults, ReceiveFaults, Cut, Marked}
use Rattle.rad_metrics.specs.Reasons.{reason_name, up_text}
use Rattle.rad_lane.specs.declared.leftover.LeftState.{LeftState}
use Rattle.rad_lane.specs.declared.leftover.LeftState.TheVariants.{Queued, Outstanding, Untaken}
use Rattle.rad_telemetry.specs.declared.lines.Sum.{Sum}
use Rattle.rad_telemetry.specs.declared.lines.UpLine.{UpLine}

-- The address and port of the other end of a datagram.
abbrev pub peer_text : Endpoint → List ℕ
peer_text peer = codes "address=" ++ address_text peer.address ++ codes " port=" ++ decimal peer.port

-- A client's port.
unfoldable pub client_port_text : ℕ → List ℕ
client_port_text port = codes "client_port=" ++ decimal port

-- A client's address and port.
abbrev pub client_text : Endpoint → List ℕ
client_text client = codes "client=" ++ address_text client.address ++ codes " " ++ client_port_text client.port

-- The event of a line. The other metrics have no sums.
abbrev pub event_word : Counted → List ℕ
event_word Dropped = codes "dropped"
event_word Refused = codes "refused"
event_word Unheard = codes "unheard"
event_word SendFaults = codes "send-fault"
event_word ReceiveFaults = codes "receive-fault"
event_word Marked = codes "marked"
event_word metric = codes "cut"

-- How many requests had Proxy-States of this proxy's own form, and the most of them that one request had.
unfoldable pub marked_counts : ℕ → ℕ → List ℕ
marked_counts count most = codes "count=" ++ decimal count ++ codes " proxy_states=" ++ decimal most

-- How many requests were removed from the book of a home server's lane.
abbrev pub cut_line : List ℕ → ℕ → List ℕ
cut_line home count = codes "event=cut home=" ++ home ++ codes " count=" ++ decimal count

-- How many datagrams at the clients' sockets were dropped, or requests refused, for one reason, and the client of the
-- last one.
abbrev pub client_sum : Sum → List ℕ
client_sum sum =
    (codes "event=" ++ event_word sum.event.metric ++ codes " reason=\"" ++ reason_name sum.event.reason)
    ++ (codes "\" count=" ++ decimal sum.count ++ codes " " ++ client_text sum.last)

-- How many datagrams at a home server's sockets were dropped, for one reason.
abbrev pub home_sum : List ℕ → List ℕ → ℕ → List ℕ
home_sum home reason count =
    (codes "event=unheard home=" ++ home) ++ (codes " reason=\"" ++ reason ++ codes "\" count=" ++ decimal count)

-- How many requests that lead to a lane had Proxy-States of this proxy's own form, the most that one had, and the client
-- of the last one.
abbrev pub marked_sum : List ℕ → Sum → List ℕ
marked_sum home sum =
    (codes "event=marked home=" ++ home ++ codes " ") ++ (marked_counts sum.count sum.most_marks ++ codes " " ++ client_text sum.last)

-- How many sends of a worker failed, or how many receives.
abbrev pub fault_sum : List ℕ → List ℕ → ℕ → List ℕ
fault_sum event worker count = codes "event=" ++ event ++ codes " worker=" ++ worker ++ codes " count=" ++ decimal count

-- The line of a sum, by its metric.
abbrev pub line_of : Counted → List ℕ → Sum → List ℕ
line_of Dropped name sum = client_sum sum
line_of Refused name sum = client_sum sum
line_of Unheard name sum = home_sum name (reason_name sum.event.reason) sum.count
line_of Cut name sum = cut_line name sum.count
line_of Marked name sum = marked_sum name sum
line_of metric name sum = fault_sum (event_word metric) name sum.count

abbrev pub sum_line : List ℕ → Sum → List ℕ
sum_line name sum = line_of sum.event.metric name sum

-- Whether a sum is logged as a warning, given whether all other realms lead to a lane too: refusals and faults are; and
-- requests with Proxy-States of this proxy's own form if one had more than one, or if all other realms lead to a lane.
abbrev pub warns_of : Counted → Bool → ℕ → Bool
warns_of Refused takes_all most = true
warns_of SendFaults takes_all most = true
warns_of ReceiveFaults takes_all most = true
warns_of Marked takes_all most = takes_all || nat_lt 1 most
warns_of metric takes_all most = false

abbrev pub is_warning : Sum → Bool → Bool
is_warning sum takes_all = warns_of sum.event.metric takes_all sum.most_marks

-- A home server that is marked up, and why.
abbrev pub up_line : UpLine → List ℕ
up_line line = codes "event=up home=" ++ line.home.now ++ codes " reason=\"" ++ up_text line.reason ++ codes "\""

-- How many requests are left of a home server's lane, besides those that were logged.
abbrev pub others_line : List ℕ → ℕ → List ℕ
others_line home count = codes "event=left home=" ++ home ++ codes " count=" ++ decimal count

-- How many lines about what is traced were left out.
abbrev pub left_out_line : ℕ → List ℕ
left_out_line count = codes "event=trace-left-out count=" ++ decimal count

-- The state in which a request is left.
abbrev pub state_text : LeftState → List ℕ
state_text Queued = codes "queued"
state_text Outstanding = codes "outstanding"
state_text Untaken = codes "untaken"
