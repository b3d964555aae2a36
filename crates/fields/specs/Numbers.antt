-- The numbers given back (01, "Numbers given back"); src/refusal.rt has 01's sentence beside each.
use Rattle.std.specs.Prelude.{ℕ}
use Rattle.fields.specs.declared.refusal.Fault.{Fault}
use Rattle.fields.specs.declared.refusal.Fault.TheVariants as fault

abbrev pub truncated : ℕ
truncated = 1

abbrev pub bad_header : ℕ
bad_header = 2

abbrev pub bad_size : ℕ
bad_size = 3

abbrev pub bad_profile : ℕ
bad_profile = 4

abbrev pub bad_padding : ℕ
bad_padding = 5

abbrev pub unknown_type : ℕ
unknown_type = 6

abbrev pub bad_chain : ℕ
bad_chain = 7

abbrev pub bad_name : ℕ
bad_name = 8

abbrev pub over_limit : ℕ
over_limit = 9

abbrev pub out_of_range : ℕ
out_of_range = 10

abbrev pub out_of_order : ℕ
out_of_order = 11

abbrev pub no_room : ℕ
no_room = 12

abbrev pub bad_steps : ℕ
bad_steps = 13

abbrev pub not_allowed : ℕ
not_allowed = 14

abbrev pub counts_disagree : ℕ
counts_disagree = 15

abbrev pub no_step : ℕ
no_step = 16

abbrev pub bytes_left : ℕ
bytes_left = 17

abbrev pub bad_state : ℕ
bad_state = 18

-- the number of a fault that the code hands back
abbrev pub fault_number : Fault → ℕ
fault_number fault.Truncated = truncated
fault_number fault.BadHeader = bad_header
fault_number fault.BadSize = bad_size
fault_number fault.BadProfile = bad_profile
fault_number fault.BadPadding = bad_padding
fault_number fault.UnknownType = unknown_type
fault_number fault.BadChain = bad_chain
fault_number fault.BadName = bad_name
fault_number fault.OverLimit = over_limit
fault_number fault.OutOfRange = out_of_range
fault_number fault.OutOfOrder = out_of_order
fault_number fault.NoRoom = no_room
fault_number fault.BadSteps = bad_steps
fault_number fault.NotAllowed = not_allowed
fault_number fault.CountsDisagree = counts_disagree
fault_number fault.NoStep = no_step
fault_number fault.BytesLeft = bytes_left
fault_number fault.BadState = bad_state
