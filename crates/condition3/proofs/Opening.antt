-- The definitions that a line, a packet, a tick and a visit compute with, opened together: `unfolding opened` computes calls on closed
-- states.
-- Assumes nothing.
use Prim.Native.Nat.{ℕ}
use mathlib.Core.Bool as bools
use Rattle.decimal.specs.Print as print
use Rattle.decimal.specs.Read as read
use Rattle.decimal.specs.Short as short
use Rattle.decimal.specs.Writable as written
use Rattle.drive.specs.Rates as rates
use Rattle.drive.specs.Syringe as syringe
use Rattle.words.specs.Phases as phases
use Rattle.loops.specs.Loops as loops
use Rattle.dispense.specs.Ledgers as ledgers
use Rattle.dispense.specs.Visits as visits
use Rattle.program.specs.Control as control
use Rattle.program.specs.Runs as runs
use Rattle.program.specs.Statuses as statuses
use Rattle.program.specs.Sound as sound
use Rattle.tick.specs.Entering as entering
use Rattle.tick.specs.Working as working
use Rattle.tick.specs.Ticks as ticks
use Rattle.command.specs.Queries as queries
use Rattle.command.specs.Judging as judging
use Rattle.command.specs.Obeying as obeying
use Rattle.line.specs.Characters as characters
use Rattle.line.specs.Spelling as spelling
use Rattle.line.specs.Names as names
use Rattle.line.specs.Addresses as addresses
use Rattle.line.specs.Arguments as arguments
use Rattle.line.specs.Commands as commands
use Rattle.line.specs.Functions as functions
use Rattle.line.specs.Lines as lines
use Rattle.line.specs.Requests as requests
use Rattle.link.specs.Link as link
use Rattle.crc.specs.Check as crc
use Rattle.crc.specs.Xor as adding
use Rattle.packet.specs.Packets as packets
use Rattle.packet.specs.Receiver as receiver
use Rattle.answer.specs.Answers as answers
use Rattle.pump.specs.Device as device
use Rattle.pump.specs.Elapsing as elapsing
use Rattle.pump.specs.Holder as holder
use Rattle.pump.specs.Arriving as arriving
use Rattle.pump.specs.Calls as calls
use Rattle.pump.specs.Reports as reports
use Rattle.statement.specs.Histories as histories
use Rattle.line.specs.Collected as collected
use Rattle.condition3.specs.Books as books

unfoldable pub opened : ℕ
unfolding read.is_digit read.is_point read.plain read.digits read.points read.decimals read.number_from read.well_formed read.in_thousandths
    read.read written.is_writable short.joined short.read_one short.read_two short.read_tenths short.all_digits short.read_three
    print.last_digit print.last_worth print.print print.print_two print.print_three print.print_tenths
    rates.hourly_rate rates.is_usable syringe.is_diameter syringe.step_volume syringe.step_threshold syringe.volume_unit syringe.volume_in_fl syringe.step_target
    phases.power_up phases.is_sound_phase loops.before loops.lps loops.newest loops.older loops.lop loops.lpe loops.all_sound
    loops.none_begun_by loops.all_differ loops.is_sound_loops ledgers.is_sound_ledger
    visits.due_of visits.store_of visits.steps_of visits.given_of visits.worked_of visits.is_done
    characters.is_return characters.is_dropped characters.is_lower characters.raised characters.arrival_of characters.can_stand spelling.leads
    spelling.is_text names.name_of names.argument_of addresses.address_width addresses.address_of addresses.unaddressed
    arguments.diameter_asked arguments.volume_asked arguments.units_of arguments.units_at_end arguments.amount_of arguments.rate_asked
    arguments.heading_of arguments.direction_asked arguments.clear_asked arguments.phase_asked arguments.run_asked arguments.unless_more
    functions.called_in functions.pause_asked functions.function_asked commands.command_of lines.with_character lines.after_byte
    lines.all_stand lines.is_sound_line lines.address_in requests.limit_asked requests.request_of requests.asked_of requests.asked_in
    link.limited_to link.is_safe link.limit_of link.ticks_left link.fires link.link_after link.link_tick link.is_sound_link receiver.sound_receiver
    receiver.length_taken receiver.data_taken receiver.low_taken receiver.end_taken receiver.begun_by receiver.after_byte receiver.tick
    packets.check_bytes packets.packet_of packets.is_length packets.is_check adding.◌⊕◌ crc.bit crc.shifted crc.after crc.bits_of crc.bits
    crc.check_of bools.xor answers.text_of answers.length_in answers.buffer_after
    entering.begin_visit entering.enter_rate entering.enter_pause entering.start_loop entering.pass_loop entering.end_loop entering.jump_if
    entering.arm_trap entering.clear_trap entering.enter working.dose_of working.after_visit working.give_steps
    working.work_visit working.work_pause ticks.entered ticks.tick runs.fire statuses.status_run control.run_on control.run_from control.stop_now
    sound.is_sound_visit sound.is_sound_run sound.is_sound_core queries.stored_rate queries.ask_rate queries.ask_volume queries.ask_phase queries.ask_totals
    judging.judge_idle judging.judge_diameter judging.judge_stored judging.judge_tuning judging.judge_volume judging.judge_direction
    judging.judge_phase judging.judge_function obeying.settle obeying.set_diameter obeying.tune obeying.set_rate obeying.choose
    obeying.clear_total
    device.is_sound_device device.set_limit device.obeyed device.ours device.hear_text holder.phase_at holder.with_phase holder.fresh_phases holder.is_sound_phases
    holder.is_sound_pump calls.tick_call calls.tick_buffer arriving.arrival calls.after_text calls.hear calls.byte_report calls.byte_buffer reports.of_pin reports.of_byte
    histories.after histories.trace collected.characters elapsing.after_tick elapsing.sent books.view_of books.is_obeyed books.timed_out books.clears books.drops books.noted books.books
opened = 0
